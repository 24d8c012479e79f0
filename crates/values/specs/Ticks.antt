-- Milliseconds as ticks of 50 ms.
use Rattle.std.specs.Prelude.{ℕ, ◌+◌, ◌/◌, min, max, ℤ, pos, negsuc}

-- rounded up to whole ticks, within 1 to 60,000; zero and negative are 1 tick
abbrev pub ticks_of : ℤ → ℕ
ticks_of (pos n) = max 1 (min ((n + 49) / 50) 60000)
ticks_of (negsuc n) = 1
