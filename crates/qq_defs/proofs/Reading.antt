-- What an answer tells of what reading gives.
use Rattle.std.specs.Prelude.{◌≡◌, Some, None, Result, Ok, Err}
use Rattle.qq_base.specs.declared.memory.Memory.TheVariants.{Want}
use Rattle.qq_defs.specs.declared.fault.DefsFault.{DefsFault}
use Rattle.qq_defs.specs.declared.fault.DefsFault.TheVariants.{Json, NotObject, Missing, BadArgument, Unsupported, Policies, UnknownTarget, Limit, Memory}
use Rattle.qq_defs.specs.Reading.{Gives, with_memory}

pub answer_is : {X Y : Type 0} (view : X → Y) (result : Result X DefsFault) (reading given : Result Y DefsFault)
    → Gives view result reading → with_memory view result ≡ Some given → reading ≡ given
answer_is view (Ok x) reading given gives seen = cc
answer_is view (Err (Memory m)) reading given gives seen = absurd cc
answer_is view (Err Json) reading given gives seen = cc
answer_is view (Err NotObject) reading given gives seen = cc
answer_is view (Err (Missing path)) reading given gives seen = cc
answer_is view (Err (BadArgument name)) reading given gives seen = cc
answer_is view (Err (Unsupported name)) reading given gives seen = cc
answer_is view (Err Policies) reading given gives seen = cc
answer_is view (Err (UnknownTarget name)) reading given gives seen = cc
answer_is view (Err (Limit count)) reading given gives seen = cc

pub want_is : {X Y : Type 0} (view : X → Y) (result : Result X DefsFault) (reading : Result Y DefsFault)
    → Gives view result reading → with_memory view result ≡ None → result ≡ Err (Memory Want)
want_is view (Ok x) reading gives none = absurd cc
want_is view (Err (Memory m)) reading gives none = cc
want_is view (Err Json) reading gives none = absurd cc
want_is view (Err NotObject) reading gives none = absurd cc
want_is view (Err (Missing path)) reading gives none = absurd cc
want_is view (Err (BadArgument name)) reading gives none = absurd cc
want_is view (Err (Unsupported name)) reading gives none = absurd cc
want_is view (Err Policies) reading gives none = absurd cc
want_is view (Err (UnknownTarget name)) reading gives none = absurd cc
want_is view (Err (Limit count)) reading gives none = absurd cc
