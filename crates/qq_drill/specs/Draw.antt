-- What a drill draws: numbers of a linear congruential generator with the multiplier of MMIX (Knuth, The Art of
-- Computer Programming, volume 2, section 3.3.4), of which the upper 31 bits count.
use Rattle.std.specs.Prelude.{ℕ, ◌+◌, ◌*◌, ◌/◌, ◌%◌, ◌^◌, nat_lt, if◌then◌else◌}
use Rattle.qq_drill.specs.declared.draw.Deed.{Deed}
use Rattle.qq_drill.specs.declared.draw.Deed.TheVariants.{Sends, Gets, Subscribes, Settles, Returns, Crashes, Ticks}
use Rattle.qq_drill.specs.declared.draw.Draw.{Draw}

unfoldable pub next_x : ℕ → ℕ
next_x x = (x * 6364136223846793005 + 1442695040888963407) % 2 ^ 64

unfoldable pub drawn : ℕ → ℕ
drawn x = x / 2 ^ 33

abbrev pub deed_of : ℕ → Deed
deed_of kind =
    if nat_lt kind 7 then Sends else if nat_lt kind 10 then Gets else if nat_lt kind 11 then Subscribes
    else if nat_lt kind 13 then Settles else if nat_lt kind 14 then Returns else if nat_lt kind 15 then Crashes
    else Ticks

-- a number says at which of the four queues, what, at which node, and how many bytes a crash leaves
abbrev pub draw_of : (nodes number : ℕ) → Draw
draw_of nodes number =
    record {
      queue = 1 + number % 4;
      deed = deed_of (number / 4 % 16);
      node = 1 + number / 64 % nodes;
      cut = number / 512 % 128;
    }
