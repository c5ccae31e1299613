use Rattle.std.proofs.Common.{◌≡◌, ℕ, List, ◌-◌, ◌≤◌, ◌++◌, ◌∙◌, length, sym, ap, append_assoc, arith}
use Rattle.qq_entry.specs.declared.limits.TheConstants.{LENGTH_LIMIT}
use Rattle.qq_fields.specs.Writing.{u32, u64}
use Rattle.qq_command.specs.Encoding.{payload, encoding}
use Rattle.qq_command.proofs.ShortEncodings.{payload_len}
use Rattle.qq_fields.proofs.Appends.{append_twice, length_between, set_before}
use Rattle.qq_command.proofs.writing.put_encoding.Goals as goal

pub overflow_cast-length : goal.overflow_cast-length
overflow_cast-length c =
    let small : length (payload c.args.entry.now) ≤ LENGTH_LIMIT = payload_len c.args.entry.now c.requires.range in
    let between : length c.put_payload.new.out.items - length c.put_u32.new.out.items ≡ length
    (payload c.args.entry.now) = length_between c.put_u32.new.out.items (payload c.args.entry.now)
    c.put_payload.new.out.items c.in_ok-put_payload.ensures.ok in
    omega (arith, c.len.ensures, c.len-start.ensures)

pub returns-clause-ok : goal.returns-clause-ok
unfolding encoding
returns-clause-ok c =
    let between : length c.put_payload.new.out.items - length c.put_u32.new.out.items ≡ length
    (payload c.args.entry.now) = length_between c.put_u32.new.out.items (payload c.args.entry.now)
    c.put_payload.new.out.items c.in_ok-put_payload.ensures.ok in
    let old = c.args.out.now.items in
    let head = u64 c.args.entry.now.term.0 in
    let inner = payload c.args.entry.now in
    append_twice old head (u32 (length inner) ++ inner) c.put_u64.new.out.items c.set_length.new.out.items
    c.in_ok-put_u64.ensures.ok
    (set_before c.put_u64.new.out.items inner c.put_u32.new.out.items c.put_payload.new.out.items
    c.set_length.new.out.items c.len-place.result (c.len.result - c.len-start.result) (length inner)
    c.in_ok-put_u32.ensures.ok c.in_ok-put_payload.ensures.ok (omega (arith, c.len-place.ensures))
    (omega (arith, c.len.ensures, c.len-start.ensures)) c.set_length.ensures)
    ∙ ap (λ (t : List ℕ). old ++ t) (sym (append_assoc head (u32 (length inner)) inner))
