-- Which lists of hops are refused, and with what: the first bad hop's number, and no other list's.
-- Assumes nothing.
use Prim.Native.Nat.{◌≤◌}
use mathlib.Core.Path.{◌≡◌, refl, sym, ap, ◌∙◌}
use mathlib.Core.Bool.{Bool, true, false}
use mathlib.Core.List.{List, [], ◌∷◌, ◌++◌}
use borrow.Author.Tests.{lt-ltb, le-ltb, ltb-false, le-leb, lt-leb, leb-true, leb-false}
use lib.Dec.{ltb, leb}
use lib.ListN.{length}
use Rattle.refusal.specs.Answer.{Answer, value, refused}
use Rattle.refusal.proofs.Answers.{not_both, same_value, passes}
use Rattle.residence.specs.Residence.{limit}
use Rattle.hops.specs.declared.Hop.{Hop}
use Rattle.hops.specs.declared.Start.{Start}
use Rattle.hops.specs.declared.End.{End}
use Rattle.hops.specs.Plan.{is_mode, end_of, checked, plan_of}
use Rattle.hops.specs.Promises.{TooMany, Good, AllGood, FirstBad, NoneBad}

-- the first hop, where it is bad: its mode before its residence
bad_mode : {A : Type 0} (h : Hop) (hs : List Hop) (next : Answer A) → is_mode h.mode ≡ false → checked (h ∷ hs) next ≡ refused 29
bad_mode h hs next m = rw m

bad_residence :
    {A : Type 0} (h : Hop) (hs : List Hop) (next : Answer A) → is_mode h.mode ≡ true → limit ≤ h.residence → checked (h ∷ hs) next ≡ refused 10
bad_residence h hs next m l = rw (m, le-leb limit h.residence l)

-- good hops let through what follows them
passed_by : {A : Type 0} (hs : List Hop) (next : Answer A) → AllGood hs → checked hs next ≡ next
passed_by [] next g = refl
passed_by (h ∷ hs) next g = rw (g.0.0, lt-leb limit h.residence g.0.1) (passed_by hs next g.1)

-- and what was let through met good hops alone
let_through : {A : Type 0} (hs : List Hop) (next : Answer A) (a : A) → checked hs next ≡ value a → AllGood hs
let_through [] next a e = tt
let_through (h ∷ hs) next a e = go (is_mode h.mode) refl (leb limit h.residence) refl (λ f. let_through hs next a f)
  where
    go :
        (m : Bool) → is_mode h.mode ≡ m → (l : Bool) → leb limit h.residence ≡ l → (checked hs next ≡ value a → AllGood hs)
        → Good h × AllGood hs
    go false p l q on = absurd (not_both (sym (bad_mode h hs next p) ∙ e))
    go true p true q on = absurd (not_both (sym (bad_residence h hs next p (leb-true limit h.residence q)) ∙ e))
    go true p false q on = ((p, leb-false limit h.residence q), on (rw (p, q) at e))

-- a list in two parts
checked_parts : {A : Type 0} (before after : List Hop) (next : Answer A) → checked (before ++ after) next ≡ checked before (checked after next)
checked_parts [] after next = refl
checked_parts (h ∷ before) after next = ap (checked (h ∷ [])) (checked_parts before after next)

within : (hs : List Hop) (s : Start) → length hs ≤ 255 → plan_of hs s ≡ checked hs (value (end_of hs s))
within hs s l = rw (le-ltb 255 (length hs) l)

pub too_many : TooMany
too_many hs s l = rw (lt-ltb 255 (length hs) l)

pub first_bad : FirstBad
first_bad before after h s l g =
    let hs = before ++ h ∷ after in
    let next = value (end_of hs s) in
    let here : plan_of hs s ≡ checked (h ∷ after) next =
    within hs s l ∙ checked_parts before (h ∷ after) next ∙ passed_by before (checked (h ∷ after) next) g in
    (λ m. here ∙ bad_mode h after next m, λ m r. here ∙ bad_residence h after next m r)

pub none_bad : NoneBad
none_bad hs s l g = within hs s l ∙ passed_by hs (value (end_of hs s)) g

-- a plan that is not refused is the end of good hops, of which there are not too many
pub plan_value : (hs : List Hop) (s : Start) (e : End) → plan_of hs s ≡ value e → (length hs ≤ 255) × AllGood hs × (end_of hs s ≡ e)
plan_value hs s e p =
    let x = passes 28 (ltb 255 (length hs)) (checked hs (value (end_of hs s))) e p in
    let l = ltb-false 255 (length hs) x.0 in
    let g = let_through hs (value (end_of hs s)) e x.1 in
    (l, g, same_value (sym (none_bad hs s l g) ∙ p))
