-- What was found of each queue.
use Rattle.std.specs.Prelude.{◌≡◌, ◌+◌, ◌<◌, ℕ, Bool, List, [], filter, get_or, length, nat_eq}
use Rattle.qq_log.specs.declared.lane.Lane.{Lane}
use Rattle.qq_doctor.specs.Lanes.{Found}

abbrev pub is_of : (number : ℕ) → Found → Bool
is_of number found = nat_eq found.1.queue.0 number

-- the lanes of the queue with this number, in the order of their nodes
abbrev pub of_queue : (number : ℕ) → List Found → List Found
of_queue number found = filter (is_of number) found

abbrev pub of_node : (k : ℕ) → Lane → Found
of_node k lane = (record { 0 = k }, lane)

-- As it is kept: each row has the lanes of its queue, and the first is that of queue 1.
pub record AreSorted (count : ℕ) (found : List Found) (rows : List (List Found)) : Type 0 where
  pub count_is : length rows ≡ count
  pub each : (at : ℕ) → at < count → get_or rows at [] ≡ of_queue (at + 1) found
