-- What follows for a consumer once deliveries to it have ended.
use Rattle.std.specs.Prelude.{◌≡◌, ℕ, Option, Some, None, true, false, ◌&&◌, nat_eq, nat_lt}
use Rattle.qq_parts.specs.Parts.{Served}
use Rattle.qq_parts.specs.Turns.{credit_of_one}
use Rattle.qq_parts.specs.Consumers.{needed_one}
use Rattle.qq_consumer.specs.declared.next.Next.{Next}
use Rattle.qq_consumer.specs.declared.next.Next.TheVariants as next

-- it isn't needed, it draws a turn, or neither
abbrev pub IsNext : ℕ → Served → Next → Type 0
IsNext before one (next.Leaves) = needed_one one ≡ false
IsNext before one (next.Draws consumer) =
    (needed_one one ≡ true) × ((nat_eq before 0 && nat_lt 0 (credit_of_one one)) ≡ true)
    × (consumer ≡ one.consumer)
IsNext before one (next.Stays) =
    (needed_one one ≡ true) × ((nat_eq before 0 && nat_lt 0 (credit_of_one one)) ≡ false)

-- of the consumer of an id, if it is there
abbrev pub IsNextOf : ℕ → Option Served → Next → Type 0
IsNextOf before None what = Unit {0}
IsNextOf before (Some one) what = IsNext before one what
