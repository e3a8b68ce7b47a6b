-- Delays in jiffies of 1/70 second and in milliseconds (document 02, Req 06).
use Rattle.std.specs.Prelude.{ℕ, ◌+◌, ◌*◌, ◌/◌, leb, Result, Ok, Err}
use Rattle.words.specs.Words.{require◌else◌then◌}
use Rattle.delay.specs.declared.Jiffies.{Jiffies}
use Rattle.delay.specs.declared.Milliseconds.{Milliseconds}
use Rattle.delay.specs.declared.TooLong.{TooLong}

abbrev pub jiffies : ℕ → Jiffies
jiffies n = record { 0 = n }

abbrev pub milliseconds : ℕ → Milliseconds
milliseconds n = record { 0 = n }

-- "Jiffies j become 1000j/70 rounded down"
abbrev pub in_milliseconds : Jiffies → Milliseconds
in_milliseconds j = milliseconds (1000 * j.0 / 70)

-- "milliseconds m become 70m/1000 rounded up"; "jiffies over 65,535" are no delay of an FLI
abbrev pub in_jiffies : Milliseconds → Result Jiffies TooLong
in_jiffies m =
    require leb ((70 * m.0 + 999) / 1000) 65535 else Err (record {}) then
    Ok (jiffies ((70 * m.0 + 999) / 1000))
