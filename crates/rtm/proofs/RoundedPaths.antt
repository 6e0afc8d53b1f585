-- The residences of a path are less than a unit for each NTP node below the exact ones: every call on the first message had its residence
-- accepted, and each of those is rounded down once.
-- Assumes nothing.
use Prim.Native.Nat.{ℕ, zero, suc, ◌+◌, ◌*◌, ◌≤◌}
use mathlib.Core.Path.{◌≡◌, refl, sym, ap, ◌∙◌}
use mathlib.Core.Bool.{true, false}
use mathlib.Core.List.{List, [], ◌∷◌, map}
use mathlib.Core.Option.{some}
use native.Mathlib.Omega.{arith}
use lib.ListN.{get_elem?}
use Rattle.refusal.specs.Answer.{Answer, value, refused}
use Rattle.residence.specs.Residence.{accepted_of}
use Rattle.stamp.specs.declared.stamps.Stamps.{Stamps}
use Rattle.stamp.specs.declared.stamps.Stamps.TheVariants.{Ptp, Ntp}
use Rattle.stamp.specs.Stamps.{residence_of}
use Rattle.stamp.specs.Rounding.{exact}
use Rattle.stamp.proofs.Given.{not_rounded, rounded_down}
use Rattle.records.specs.declared.Identity.{Identity}
use Rattle.records.specs.Node.{Event, tick, call, switchover}
use Rattle.rules.specs.Rules.{Kind, sync, delay_req, kind_of, Mode, one_step, two_step, Call, Reply, update, create, keep, rules}
use Rattle.rules.specs.Path.{first_answer, FirstUnrefused, Visit, Every, First, of_sync, of_delay, FirstWay, units_of}
use Rattle.rules.proofs.Calls.{reply_is, next, next_first}
use Rattle.rules.proofs.Crossing.{asked, came, of_kind, answered_first, first_at}
use Rattle.rtm.specs.Stamped.{StampedCall, handed, handed_event, StampedStop, as_stop, stamps_in, first_stamps, total, units}
use Rattle.rtm.specs.Rounding.{ntp_node, PathRoundedDown}
use Rattle.rtm.proofs.Runs.{accepted_is}

-- residences that are not above the exact ones, and for each NTP node at most 65,535 65,536ths of a unit below them
abbrev Within : List Stamps → Type 0
Within ss =
    (total units ss * 65536 ≤ total exact ss)
    × (total exact ss + total ntp_node ss ≤ (total units ss + total ntp_node ss) * 65536)

within_more : (s : Stamps) (u : ℕ) (ss : List Stamps) → residence_of s ≡ value u → Within ss → Within (s ∷ ss)
within_more (Ptp entry exit) u ss e h =
    let f : units (Ptp entry exit) ≡ u = ap units_of e in
    let g = not_rounded entry exit u e in
    (omega (arith, f, g, h.0), omega (arith, f, g, h.1))
within_more (Ntp entry exit) u ss e h =
    let f : units (Ntp entry exit) ≡ u = ap units_of e in
    let g = rounded_down entry exit u e in
    (omega (arith, f, g.0, h.0), omega (arith, f, g.1, h.1))

-- a call on a first message that is not refused has its residence accepted
module _ (c : Call) (table : Answer ℕ) (q : Identity) (fine : (n : ℕ) → (rules.reply c table).answer ≡ refused n → ⊥) where
  abbrev Accepted : Type 0
  Accepted = (u : ℕ) × (accepted_of c.residence ≡ value u)

  not_so : (n : ℕ) {r : Reply} → rules.reply c table ≡ r → r.answer ≡ refused n → Accepted
  not_so n e f = absurd (fine n (ap (λ (r : Reply). r.answer) e ∙ f))

  by_case :
      (o : Mode) → c.mode ≡ o → {k : Kind} → First q k → kind_of c.message ≡ k
      → (a : Answer ℕ) → accepted_of c.residence ≡ a → Accepted
  by_case o m f k (value u) p = (u, p)
  by_case one_step m (of_sync b) k (refused n) p = not_so n (reply_is c table one_step (sync q b) m k) (ap (λ (a : Answer ℕ). (update c a).answer) p)
  by_case one_step m of_delay k (refused n) p = not_so n (reply_is c table one_step (delay_req q) m k) (ap (λ (a : Answer ℕ). (update c a).answer) p)
  by_case two_step m (of_sync true) k (refused n) p = not_so n (reply_is c table two_step (sync q true) m k) (ap (λ (a : Answer ℕ). (keep c a table).answer) p)
  by_case two_step m (of_sync false) k (refused n) p = not_so n (reply_is c table two_step (sync q false) m k) (ap (λ (a : Answer ℕ). (create c a).answer) p)
  by_case two_step m of_delay k (refused n) p = not_so n (reply_is c table two_step (delay_req q) m k) (ap (λ (a : Answer ℕ). (keep c a table).answer) p)

  accepts : {k : Kind} → First q k → kind_of c.message ≡ k → Accepted
  accepts f e = by_case c.mode refl f e (accepted_of c.residence) refl

-- the call with stamps that a call with a residence comes from
unhanded :
    (es : List (Event StampedCall)) (k : ℕ) (d : Call)
    → get_elem? (map handed_event es) k ≡ some (call d)
    → (c : StampedCall) × (get_elem? es k ≡ some (call c)) × (handed c ≡ d)
unhanded [] k d e = absurd (let z : ◌≡◌ {A = ℕ} 0 1 = cc in omega arith)
unhanded (tick ∷ es) zero d e = absurd (let z : ◌≡◌ {A = ℕ} 0 1 = cc in omega arith)
unhanded (switchover ∷ es) zero d e = absurd (let z : ◌≡◌ {A = ℕ} 0 1 = cc in omega arith)
unhanded (call c ∷ es) zero d e = (c, refl, out e)
  where
    out : some (call (handed c)) ≡ some (call d) → handed c ≡ d
    out x = cc
unhanded (e ∷ es) (suc k) d p = unhanded es k d p

module _ (q : Identity) where
  -- the stamps of its call there give a residence
  measured :
      (n : StampedStop) (s : List ℕ) (r : Reply) {k : Kind}
      → Visit (as_stop n) n.first_place s r
      → FirstUnrefused (as_stop n)
      → First q k
      → kind_of s ≡ k
      → (x : Stamps) × (u : ℕ) × (stamps_in (get_elem? n.events n.first_place) ≡ x ∷ []) × (residence_of x ≡ value u)
  measured n s r {k} v h f e =
      let m = as_stop n in
      let i = n.first_place in
      let answer = answered_first q m s r v ∙ ap (λ (y : Reply). some y.answer) (came m i s r v) in
      let g = unhanded n.events i v.handed v.here in
      let x = accepts v.handed (asked m i s r v) q (λ a z. h a (answer ∙ ap some z)) f (of_kind m i s r v k e) in
      (g.0.stamps, x.0, ap stamps_in g.1, sym (accepted_is g.0.stamps) ∙ ap (λ (c : Call). accepted_of c.residence) g.2 ∙ x.1)

  all_within :
      {s last : List ℕ} {k : Kind} (path : List StampedStop)
      → First q k
      → kind_of s ≡ k
      → Every FirstUnrefused (map as_stop path)
      → FirstWay s (map as_stop path) last
      → Within (first_stamps path)
  all_within [] f e h w = (omega arith, omega arith)
  all_within (n ∷ ns) f e h (FirstWay.cross {s = s} {r = r} v w) =
      let m = as_stop n in
      let x = measured n s r v h.0 f e in
      let y = (first_at q m s r v f e).grown.kind in
      rw x.2 (within_more x.0 x.1 (first_stamps ns) x.3 (all_within {s = r.message} {k = next f (first_answer m)} ns (next_first f (first_answer m)) y h.1 w))

pub path_rounded_down : PathRoundedDown
path_rounded_down q start last path n f u w t h = let x = all_within q path f refl u w in (x.0, omega (arith, x.1, t, h))
