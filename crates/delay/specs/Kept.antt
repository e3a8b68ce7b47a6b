-- What is promised of delays.
use Rattle.std.specs.Prelude.{◌≡◌, ℕ, ◌≤◌, Ok}
use Rattle.delay.specs.Delay.{jiffies, in_milliseconds, in_jiffies}

-- "jiffies to milliseconds and back is unchanged", of every delay that two bytes hold
abbrev pub JiffiesKept : Type 0
JiffiesKept = (n : ℕ) → n ≤ 65535 → in_jiffies (in_milliseconds (jiffies n)) ≡ Ok (jiffies n)
