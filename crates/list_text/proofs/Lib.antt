pub mod Laws
pub mod Resumes
