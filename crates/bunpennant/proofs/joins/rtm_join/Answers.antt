-- A joined pair is of types 2 to 4, and the Follow_Up's packet is shown where it has one.
use mir.Val.{SFits}
use mir.ValLaws.{to_z-of_z}
use Rattle.std.proofs.Common.{rules, ◌<◌, ◌≤◌, w64, ℕ, List, ℤ, ◌≡◌, sym, ap, ◌∙◌, arith, eq-eqb, ne_eqb, length, to_z, of_z}
use Rattle.refusal.specs.Answer.{value}
use Rattle.message.specs.Read.{carried_of}
use Rattle.egress.specs.Join.{join_of}
use Rattle.egress.specs.Pair.{Whole}
use Rattle.egress.proofs.JoinedPair.{joined_pair, packet_length}
use Rattle.bunpennant.specs.C.{told, put_joined, joined_by, join_told}
use Rattle.bunpennant.proofs.joins.rtm_join.Goals as goal

-- what was put there, with the total as it was passed on, is told of the pair
telling :
    (w s f m out : List ℕ) (z : ℤ) (k : ℕ)
    → SFits w64 z
    → out ≡ put_joined w (to_z w64 (of_z w64 z)) k m
    → put_joined w z k m ≡ joined_by w s f z
    → value z ≡ join_of s f
    → told 0 out ≡ join_told w s f (join_of s f)
telling w s f m out z k fits put shown e =
    ap (told 0) (put ∙ ap (λ (y : ℤ). put_joined w y k m) (to_z-of_z w64 z fits) ∙ shown) ∙ ap (join_told w s f) e

of_follow_up : (w s f : List ℕ) (z : ℤ) → Whole f → 36 < length f → put_joined w z 1 f ≡ joined_by w s f z
of_follow_up w s f z whole h = rw (ne_eqb (length (carried_of f)) 0 (λ q. omega (arith, packet_length f whole.0)))

of_sync : (w s f : List ℕ) (z : ℤ) → Whole f → length f ≤ 36 → put_joined w z 0 s ≡ joined_by w s f z
of_sync w s f z whole h = rw (eq-eqb (length (carried_of f)) 0 (omega (arith, packet_length f whole.0)))

pub put_joined-requires : goal.put_joined-requires
put_joined-requires c =
    (joined_pair c.args.sync.now c.args.follow_up.now c.in-Ok.total (sym c.in-Ok.ensures)).1

pub put_joined-requires-in-Ok-2 : goal.put_joined-requires-in-Ok-2
put_joined-requires-in-Ok-2 c =
    (joined_pair c.args.sync.now c.args.follow_up.now c.in-Ok.total (sym c.in-Ok.ensures)).0

pub returns-in-Ok : goal.returns-in-Ok
returns-in-Ok c =
    let w = c.args.joined.now in
    let s = c.args.sync.now in
    let f = c.args.follow_up.now in
    let z : ℤ = c.in-Ok.total in
    let whole = (joined_pair s f z (sym c.in-Ok.ensures)).1 in
    telling w s f f _ z 1 (search rules) c.put_joined.ensures (of_follow_up w s f z whole c.if-follow_up-gt-CARRIED.true) c.in-Ok.ensures

pub returns-in-Ok-2 : goal.returns-in-Ok-2
returns-in-Ok-2 c =
    let w = c.args.joined.now in
    let s = c.args.sync.now in
    let f = c.args.follow_up.now in
    let z : ℤ = c.in-Ok.total in
    let whole = (joined_pair s f z (sym c.in-Ok.ensures)).1 in
    telling w s f s _ z 0 (search rules) c.put_joined-in-Ok-2.ensures (of_sync w s f z whole c.if-follow_up-gt-CARRIED.false) c.in-Ok.ensures
