-- The test of identities is equality, and so a slot holds a record of one identity at most; an empty slot holds none.
-- Assumes nothing.
use Prim.Native.Nat.{ℕ, zero, suc}
use mathlib.Core.Path.{◌≡◌, refl, sym, ◌∙◌}
use mathlib.Core.Bool.{Bool, true, false, not, ◌&&◌, true≢false, and-eq-true_iff}
use lib.Dec.{eqb, eqb-suc-zero}
use native.Mathlib.Omega.{arith}
use borrow.Author.Tests.{eqb-true, eq-eqb}
use Rattle.records.specs.declared.RecordKind.{RecordKind}
use Rattle.records.specs.declared.RecordKind.TheVariants.{Sync, Delay}
use Rattle.records.specs.declared.Identity.{Identity}
use Rattle.records.specs.declared.Record.{Record}
use Rattle.records.specs.Slots.{kind_number, identity_of, same, empty, holds, zeros, aged_by, aged}

-- a kind is known by its number
same_kind : (k l : RecordKind) → kind_number k ≡ kind_number l → k ≡ l
same_kind Sync Sync e = refl
same_kind Sync Delay e = absurd (omega arith)
same_kind Delay Sync e = absurd (omega arith)
same_kind Delay Delay e = refl

pub same_refl : (q : Identity) → same q q ≡ true
unfolding same
same_refl q =
    simp (
      eq-eqb (kind_number q.kind) (kind_number q.kind) refl,
      eq-eqb q.clock q.clock refl,
      eq-eqb q.port q.port refl,
      eq-eqb q.sequence q.sequence refl,
    )

same_sound : (p q : Identity) → same p q ≡ true → p ≡ q
unfolding same
same_sound p q e =
    let place = eqb p.clock q.clock && (eqb p.port q.port && eqb p.sequence q.sequence) in
    let k = (and-eq-true_iff (eqb (kind_number p.kind) (kind_number q.kind)) place).0 e in
    let c = (and-eq-true_iff (eqb p.clock q.clock) (eqb p.port q.port && eqb p.sequence q.sequence)).0 k.1 in
    let d = (and-eq-true_iff (eqb p.port q.port) (eqb p.sequence q.sequence)).0 c.1 in
    λ i.
    record {
      kind = same_kind p.kind q.kind (eqb-true (kind_number p.kind) (kind_number q.kind) k.0) i;
      clock = eqb-true p.clock q.clock c.0 i;
      port = eqb-true p.port q.port d.0 i;
      sequence = eqb-true p.sequence q.sequence d.1 i;
    }

pub decide : (p q : Identity) → Dec (p ≡ q)
decide p q = go (same p q) refl
  where
    go : (b : Bool) → same p q ≡ b → Dec (p ≡ q)
    go true e = yes (same_sound p q e)
    go false e = no (λ h. true≢false (sym (same_refl q) ∙ (rw h at e)))

pub holds-zeros : (q : Identity) → holds q zeros ≡ false
unfolding holds
holds-zeros q = refl

pub holds-empty : (q : Identity) (s : Record) → empty s ≡ true → holds q s ≡ false
unfolding holds
holds-empty q s e = rw e

pub holds_self : (s : Record) → empty s ≡ false → holds (identity_of s) s ≡ true
unfolding holds
holds_self s e = rw (e, same_refl (identity_of s))

holds_sound : (q : Identity) (s : Record) → holds q s ≡ true → q ≡ identity_of s
unfolding holds
holds_sound q s e = same_sound q (identity_of s) ((and-eq-true_iff (not (empty s)) (same q (identity_of s))).0 e).1

-- a slot with a record of another identity
pub holds_other : (p q : Identity) (s : Record) → (p ≡ q → ⊥) → holds q s ≡ true → holds p s ≡ false
holds_other p q s ne h = go (holds p s) refl
  where
    go : (b : Bool) → holds p s ≡ b → b ≡ false
    go true e = absurd (ne (holds_sound p s e ∙ sym (holds_sound q s h)))
    go false e = refl

-- a slot with another wait
abbrev pub with_wait : Record → ℕ → Record
with_wait s w = record { kind = s.kind; clock = s.clock; port = s.port; sequence = s.sequence; residence = s.residence; wait = w }

pub holds-aged : (q : Identity) (s : Record) → holds q (aged s) ≡ holds q s && not (empty (aged s))
unfolding holds
holds-aged q s = go s.wait (same q (identity_of s)) refl
  where
    go : (w : ℕ) (b : Bool) → same q (identity_of s) ≡ b → holds q (aged_by w (with_wait s w)) ≡ holds q (with_wait s w) && not (empty (aged_by w (with_wait s w)))
    go zero b e = refl
    go (suc zero) true e = rw e
    go (suc zero) false e = rw e
    go (suc (suc w)) true e = simp (eqb-suc-zero, e)
    go (suc (suc w)) false e = simp (eqb-suc-zero, e)
