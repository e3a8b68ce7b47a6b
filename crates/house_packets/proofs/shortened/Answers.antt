-- A gap up to the longest skip is not shortened, and for any other it is the same quotient.
use Rattle.house_packets.proofs.GapLaws.{shortened_none, shortened_some}
use Rattle.house_packets.proofs.shortened.Goals as goal

pub returns-then-g-form : goal.returns-then-g-form
returns-then-g-form c = let a = c.args in shortened_none a.form.longest a.g a.form.fits.some_longest c.if-g-form.true

pub returns : goal.returns
returns c = let a = c.args in shortened_some a.form.longest a.g a.form.fits.some_longest c.if-g-form.false
