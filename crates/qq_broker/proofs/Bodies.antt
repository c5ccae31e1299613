-- Commands of lines have bytes, whatever stamp they get.
use Rattle.std.proofs.Common.{ℕ, List, [], Some, None, refl, arith}
use Rattle.std.specs.Str.{IsUtf8}
use Rattle.std.proofs.lemmas.List.Elements.{All-from_recursion}
use Rattle.qq_entry.specs.declared.command.Unstamped.{Unstamped}
use Rattle.qq_entry.specs.declared.command.Unstamped.TheVariants as bodies
use Rattle.qq_entry.specs.Range.{IsContent, IsDeath}
use Rattle.qq_cluster_model.specs.Lines.{publish_with}
use Rattle.qq_queue.specs.Range.{MayStamp}
use Rattle.qq_cluster_run.specs.Named.{IsBody, IsShort}

-- a body in range has them
pub body-stamps : (body : Unstamped) → IsBody body → MayStamp body
body-stamps (bodies.Enqueue None message) is = λ by counted. ((counted.0, tt, is.0), is.1)
body-stamps (bodies.Enqueue (Some from) message) is = absurd is
body-stamps bodies.Get is = λ by counted. (counted, tt)
body-stamps (bodies.Subscribe tag mode) is = λ by counted. (((counted, is.0), is.1), tt)
body-stamps (bodies.Cancel tag) is = λ by counted. ((counted, is), tt)
body-stamps (bodies.Credit tag count credit drain) is = λ by counted. (((counted, is.0), is.1, is.2), tt)
body-stamps (bodies.Settle tag ids) is = λ by counted. (((counted, is.0), is.1), tt)
body-stamps (bodies.Return tag ids) is = λ by counted. (((counted, is.0), is.1), tt)
body-stamps (bodies.Discard tag ids) is = λ by counted. (((counted, is.0), is.1), tt)
body-stamps bodies.Purge is = λ by counted. (counted, tt)

-- and a message has, whose key is text
pub publish-stamps : (key body : List ℕ) → IsShort key body → IsUtf8 key → MayStamp (publish_with key body)
publish-stamps key body short text = λ by counted.
    let content : IsContent (record { body = body; key = key; deaths = [] }) = record {
      body = short.1;
      key = short.0;
      text = text;
      deaths = omega arith;
      each = All-from_recursion IsDeath [] tt;
    } in
    ((counted.0, tt, content), refl)
