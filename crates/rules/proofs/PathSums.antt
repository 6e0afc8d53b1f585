-- Below the largest pad the two pads grow by the first message's residences at the nodes that are credited. Those are the nodes that refused
-- neither message, so that demand 3's first half follows.
-- Assumes nothing.
use Prim.Native.Nat.{ℕ, ◌+◌}
use mathlib.Core.Path.{◌≡◌, refl, sym, ap, ◌∙◌}
use mathlib.Core.Bool.{false, cond}
use mathlib.Core.List.{List, [], ◌∷◌}
use native.Mathlib.Omega.{arith}
use lib.IntN.{ℤ, pos, ◌+ℤ◌, +ℤ_assoc, +ℤ_comm}
use Rattle.records.specs.declared.RecordKind.TheVariants.{Delay}
use Rattle.records.specs.declared.Identity.{Identity}
use Rattle.scratch_pad.specs.Sum.{too_big, raised}
use Rattle.scratch_pad.proofs.Held.{held_plain}
use Rattle.rules.specs.Change.{pad_of}
use Rattle.rules.specs.Path.{Stop, Unrefused, Every, of_sync, residence_at, residences}
use Rattle.rules.specs.Demand3.{PathSum, DelayPathSum}
use Rattle.rules.specs.Credited.{credits, SetExactlyIf, CreditedSum, DelayCreditedSum, Cost, LostWhereRefused, DelayLostWhereRefused}
use Rattle.rules.proofs.Crossing.{updated_at}
use Rattle.rules.proofs.Answered.{Answered, credited_once}
use Rattle.rules.proofs.Pads.{every_map, total, on_second, Pads, first_way, sync_end, pair_pads, sync-Pads}

-- below the largest a raised pad is the plain sum
plain : (z x : ℤ) (n : ℕ) → x ≡ raised z n → too_big x ≡ false → x ≡ z +ℤ pos n
plain z x n e c = e ∙ held_plain (z +ℤ pos n) (sym (ap too_big e) ∙ c)

two_sums : (a b : ℤ) (m n : ℕ) → (a +ℤ pos m) +ℤ (b +ℤ pos n) ≡ a +ℤ b +ℤ pos (m + n)
two_sums a b m n =
    +ℤ_assoc a (pos m) (b +ℤ pos n)
    ∙ ap (λ (z : ℤ). a +ℤ z) (sym (+ℤ_assoc (pos m) b (pos n)) ∙ ap (λ (z : ℤ). z +ℤ pos n) (+ℤ_comm (pos m) b) ∙ +ℤ_assoc b (pos m) (pos n))
    ∙ sym (+ℤ_assoc a b (pos (m + n)))

-- what goes on either pad is a node's credit
both_parts : (q : Identity) (ns : List Stop) → Every (Answered q) ns → total updated_at ns + total on_second ns ≡ credits ns
both_parts q [] h = refl
both_parts q (n ∷ ns) h = omega (arith, credited_once q n h.0, both_parts q ns h.1)

plain_sum : (q : Identity) (a x b y : ℤ) (ns : List Stop) → Pads q ns a x b y → too_big x ≡ false → too_big y ≡ false → x +ℤ y ≡ a +ℤ b +ℤ pos (credits ns)
plain_sum q a x b y ns p c d =
    let m = total updated_at ns in
    let n = total on_second ns in
    (λ i. plain a x m p.first_pad c i +ℤ plain b y n p.second_pad d i)
    ∙ two_sums a b m n
    ∙ ap (λ (k : ℕ). a +ℤ b +ℤ pos k) (both_parts q ns p.each)

-- ---- whatever is refused

pub set_exactly_if : SetExactlyIf
set_exactly_if q b s last ns e w = (first_way (of_sync b) e w).kind ∙ sync_end q b ns

pub credited_sum : CreditedSum
credited_sum q b s last ns x y e h w f c d =
    (plain_sum q (pad_of s) (pad_of last) x y ns (sync-Pads q b s last ns x y e h w f) c d, set_exactly_if q b s last ns e w)

pub delay_credited_sum : DelayCreditedSum
delay_credited_sum q s last f end ns fs e g h w p v c d =
    plain_sum q (pad_of s) (pad_of last) (pad_of f) (pad_of end) ns (pair_pads Delay q s last f end ns fs e g h w p v) c d

pub lost_where_refused : LostWhereRefused
lost_where_refused q b s last ns x y e h w f =
    every_map (Answered q) (Cost q) (λ n h. h.cost) ns (sync-Pads q b s last ns x y e h w f).each

pub delay_lost_where_refused : DelayLostWhereRefused
delay_lost_where_refused q s last f end ns fs e g h w p v =
    every_map (Answered q) (Cost q) (λ n h. h.cost) ns (pair_pads Delay q s last f end ns fs e g h w p v).each

-- ---- where no call on the two is refused: demand 3, first half

all_credited : (q : Identity) (ns : List Stop) → Every (Cost q) ns → Every Unrefused ns → credits ns ≡ residences ns
all_credited q [] h u = refl
all_credited q (n ∷ ns) h u = (λ i. cond (h.0.credit.1 u.0 i) (residence_at n) 0 + all_credited q ns h.1 u.1 i)

pub path_sum_follows : CreditedSum → LostWhereRefused → PathSum
path_sum_follows sum lost q b s last ns x y e h u w f c d =
    (sum q b s last ns x y e h w f c d).0
    ∙ ap (λ (k : ℕ). pad_of s +ℤ x +ℤ pos k) (all_credited q ns (lost q b s last ns x y e h w f) u)

pub delay_path_sum_follows : DelayCreditedSum → DelayLostWhereRefused → DelayPathSum
delay_path_sum_follows sum lost q s last f end ns fs e g h u w p v c d =
    sum q s last f end ns fs e g h w p v c d
    ∙ ap (λ (k : ℕ). pad_of s +ℤ pad_of f +ℤ pos k) (all_credited q ns (lost q s last f end ns fs e g h w p v) u)

pub path_sum : PathSum
path_sum = path_sum_follows credited_sum lost_where_refused

pub delay_path_sum : DelayPathSum
delay_path_sum = delay_path_sum_follows delay_credited_sum delay_lost_where_refused
