-- The packet goes from its offset to the end.
use Rattle.std.proofs.Common.{ℕ, ◌-◌, ◌≤◌, ◌≡◌, refl, sym, ap, ◌∙◌, Bool, true, false, List, arith, length, slice_set}
use lib.ListN.{length-drop}
use Rattle.refusal.specs.Answer.{Answer, value, and_then, refusal_in}
use Rattle.refusal.proofs.Answers.{then_passed}
use Rattle.message.specs.declared.fields.Message.{Message}
use Rattle.message.specs.Read.{header, is_ptp, read_of, packet_at, carried_of}
use Rattle.message.proofs.Sound.{header_sound}
use Rattle.message.proofs.Content.{header_passed, header_readable, readable, content_ptp, content_plain, value_whole}
use Rattle.node.proofs.Replies.{unchecked}
use Rattle.bunpennant.specs.C.{Told, told, tell, put_part, packet_part}
use Rattle.bunpennant.proofs.messages.rtm_carried.Goals as goal

abbrev telling : List ℕ → List ℕ → Answer Message → Told (List ℕ)
telling w s a = tell w (and_then a (λ m. value (packet_part w s)))

-- the packet of a readable message starts within it
packet-within : (s : List ℕ) → refusal_in (read_of s) ≡ 0 → packet_at (length s) (read_of s) ≤ length s
packet-within s e = by_type (is_ptp (header s).message_type) refl
  where
    by_type : (b : Bool) → is_ptp (header s).message_type ≡ b → packet_at (length s) (read_of s) ≤ length s
    by_type true p = omega (arith, ap (packet_at (length s)) (readable s e ∙ ap value (content_ptp s p)), length-drop 16 s, value_whole s e p)
    by_type false p = omega (arith, ap (packet_at (length s)) (readable s e ∙ ap value (content_plain s p)), (header_sound s (header s) (header_passed s (header_readable s e))).0.long)

-- how long the packet is
rest : (s : List ℕ) → refusal_in (read_of s) ≡ 0 → (length (carried_of s) ≤ length s) × (length s - length (carried_of s) ≡ packet_at (length s) (read_of s))
rest s e =
    let l = length-drop (packet_at (length s) (read_of s)) s in
    let w = packet-within s e in
    (omega arith, omega arith)

pub returns-in-Err : goal.returns-in-Err
returns-in-Err c =
    let s = c.args.message.now in
    ap (λ (k : ℕ). told k c.args.packet.now) c.number.ensures ∙ ap (telling c.args.packet.now s) (unchecked (read_of s) _ c.in-Err.ensures)

pub returns-in-Ok : goal.returns-in-Ok
unfolding put_part
returns-in-Ok c =
    let s = c.args.message.now in
    let w = c.args.packet.now in
    let r : refusal_in (read_of s) ≡ 0 = then_passed (read_of s) (λ m. value tt) (ap refusal_in (sym c.in-Ok.ensures)) in
    let n = ap length c.carried-length.ensures in
    let o = ap (λ (x : ℕ). length s - x) n ∙ (rest s r).1 in
    ap (told 0) (λ i. slice_set (slice_set w 0 (o i)) 1 (n i)) ∙ sym (ap (telling w s) (readable s r))
