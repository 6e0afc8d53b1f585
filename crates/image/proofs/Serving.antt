-- What holds of a table in service, so that it can be written: each slot is empty or its record sound, and no identity has two records.
-- A tick, a request that adds only sound records and a switchover each keep it.
-- Assumes nothing.
use Prim.Native.Nat.{ℕ, zero, suc, ◌-◌, ◌<◌, ◌≤◌, ◌^◌}
use mathlib.Core.Path.{◌≡◌, refl, sym, ap, subst, ◌∙◌}
use mathlib.Core.Bool.{Bool, true, false, cond, not, ◌&&◌, ◌||◌, and-eq-true_iff}
use mathlib.Core.List.{List, [], ◌∷◌, tail, map}
use mathlib.Core.Option.{Option, none, some}
use native.Mathlib.Omega.{arith}
use borrow.Author.Tests.{leb-true, le-leb, lt-ltb, ltb-true, eqb-true, eq-eqb}
use lib.Dec.{leb, eqb, eqb-suc-zero}
use lib.ListN.{length, set, replicate, length-append, length-replicate, length-map, length-set}
use Rattle.refusal.specs.Answer.{Answer, value, refused}
use Rattle.residence.specs.Residence.{limit}
use Rattle.records.specs.declared.RecordKind.{RecordKind}
use Rattle.records.specs.declared.RecordKind.TheVariants.{Sync, Delay}
use Rattle.records.specs.declared.Identity.{Identity}
use Rattle.records.specs.declared.Record.{Record}
use Rattle.records.specs.Slots.{Slots, kind_number, identity_of, empty, records_of, holds, zeros, lowest, find, fresh, vacant, add_answer, add_to, remove_from, aged_by, aged, ticked}
use Rattle.records.specs.Node.{Request, nothing, add, collect, table_answer, add_leaves, collect_leaves, table_after}
use Rattle.records.proofs.Holding.{decide, holds-empty, holds_self, holds_other, with_wait}
use Rattle.records.proofs.Numbers.{records_few, records_same}
use Rattle.records.proofs.View.{view, view_aged, no_view, view_remove_own, view_remove_other, view-ticked, view_add_own, view_add_other}
use Rattle.image.specs.declared.Form.TheVariants.{New}
use Rattle.image.specs.Layout.{widths, fit}
use Rattle.image.specs.Image.{body_of, right_wait, right_residence, sound, every, differ, distinct, loadable, filled, form_in, load_of, switched}
use Rattle.image.proofs.Loadable.{loadable_parts}
use Rattle.image.proofs.Images.{load_as_sound}
use Rattle.image.proofs.Returns.{switched_loaded, switched_refused, switched_keeps}

-- ---- sound records

-- a kind's number is an octet
pub kind_octet : (k : RecordKind) → kind_number k < 256 ^ 1
kind_octet Sync = omega arith
kind_octet Delay = omega arith

-- a record is sound by its numbers
pub sound_made :
    (r : Record)
    → 1 ≤ r.wait
    → r.wait ≤ 3
    → r.residence < limit
    → r.clock < 256 ^ 8
    → r.port < 256 ^ 2
    → r.sequence < 256 ^ 2
    → sound r ≡ true
unfolding sound
sound_made r a b u c p q =
    simp (
      le-leb 1 r.wait a,
      le-leb r.wait 3 b,
      lt-ltb r.residence limit u,
      lt-ltb (kind_number r.kind) (256 ^ 1) (kind_octet r.kind),
      lt-ltb r.clock (256 ^ 8) c,
      lt-ltb r.port (256 ^ 2) p,
      lt-ltb r.sequence (256 ^ 2) q,
      lt-ltb r.residence (256 ^ 8) (omega arith),
      lt-ltb r.wait (256 ^ 1) (omega arith),
    )

right : (r : Record) → sound r ≡ true → right_residence r ≡ true
unfolding sound
right r e =
    let f = fit (widths New) (body_of New r) in
    ((and-eq-true_iff (right_residence r) f).0 ((and-eq-true_iff (right_wait r) (right_residence r && f)).0 e).1).0

-- and stays so with a lower wait
sound_lowered : (r : Record) (v w : ℕ) → 1 ≤ w → w ≤ v → sound (with_wait r v) ≡ true → sound (with_wait r w) ≡ true
unfolding sound
sound_lowered r v w a l e =
    let others = right_residence r && fit (widths New) (body_of New (with_wait r v)) in
    let waits = ((and-eq-true_iff (leb 1 v && leb v 3) others).0 e).0 in
    let most : v ≤ 3 = leb-true v 3 ((and-eq-true_iff (leb 1 v) (leb v 3)).0 waits).1 in
    rw (le-leb 1 w a, le-leb w 3 (omega arith), lt-ltb w (256 ^ 1) (omega arith))
    (rw (le-leb 1 v (omega arith), le-leb v 3 most, lt-ltb v (256 ^ 1) (omega arith)) at e)

-- ---- tests that every record of a table passes

module _ (p : Record → Bool) where
  -- the slot is empty, or passes the test
  abbrev pub in_slot : Record → Bool
  in_slot s = empty s || p s

  pub records_every : (t : Slots) → every p (records_of t) ≡ every in_slot t
  records_every [] = refl
  records_every (s ∷ t) = go (empty s) (records_every t)
    where
      go :
          (b : Bool)
          → every p (records_of t) ≡ every in_slot t
          → every p (cond b (records_of t) (s ∷ records_of t)) ≡ (b || p s) && every in_slot t
      go true h = h
      go false h = ap (λ (d : Bool). p s && d) h

  pub every_map : (f : Record → Record) → ((s : Record) → p s ≡ true → p (f s) ≡ true) → (t : Slots) → every p t ≡ true → every p (map f t) ≡ true
  every_map f h [] e = refl
  every_map f h (s ∷ t) e =
      let k = (and-eq-true_iff (p s) (every p t)).0 e in
      rw (h s k.0) (every_map f h t k.1)

  pub every_set : (r : Record) → p r ≡ true → (t : Slots) (i : ℕ) → every p t ≡ true → every p (set t i r) ≡ true
  every_set r h [] i e = refl
  every_set r h (s ∷ t) zero e = rw h ((and-eq-true_iff (p s) (every p t)).0 e).1
  every_set r h (s ∷ t) (suc i) e =
      let k = (and-eq-true_iff (p s) (every p t)).0 e in
      rw k.0 (every_set r h t i k.1)

-- ---- a slot that is empty, or whose record is sound

abbrev pub sound_in : Record → Bool
sound_in s = in_slot sound s

sound_aged : (s : Record) → sound_in s ≡ true → sound_in (aged s) ≡ true
sound_aged s = go s.wait
  where
    go : (w : ℕ) → sound_in (with_wait s w) ≡ true → sound_in (aged_by w (with_wait s w)) ≡ true
    go zero e = e
    go (suc zero) e = refl
    go (suc (suc w)) e = rw (eqb-suc-zero w) (sound_lowered s (suc (suc w)) (suc w) (omega arith) (omega arith) (rw (eqb-suc-zero (suc w)) at e))

-- ---- records of different identities

-- a slot with a record holds one of an identity, or that of the record is another
differ-holds : (q : Identity) (s : Record) → empty s ≡ false → differ q s ≡ not (holds q s)
unfolding differ holds
differ-holds q s e = rw e

-- an identity is another than those of a table's records where it has none there
differ-view : (q : Identity) (t : Slots) → every (differ q) (records_of t) ≡ eqb (length (view q t)) 0
differ-view q [] = refl
differ-view q (s ∷ t) = go (empty s) refl (holds q s) refl (differ-view q t)
  where
    go :
        (b : Bool)
        → empty s ≡ b
        → (d : Bool)
        → holds q s ≡ d
        → every (differ q) (records_of t) ≡ eqb (length (view q t)) 0
        → every (differ q) (cond b (records_of t) (s ∷ records_of t)) ≡ eqb (length (cond d (s ∷ view q t) (view q t))) 0
    go true e d f h = rw (sym f ∙ holds-empty q s e) h
    go false e true f h = rw (differ-holds q s e, f, eqb-suc-zero (length (view q t)))
    go false e false f h = rw (differ-holds q s e, f) h

-- no identity has two records
abbrev pub Single : Slots → Type 0
Single t = (q : Identity) → length (view q t) ≤ 1

distinct-Single : (t : Slots) → distinct (records_of t) ≡ true → Single t
distinct-Single [] h q = omega arith
distinct-Single (s ∷ t) h q = go (empty s) refl h (λ k. distinct-Single t k q)
  where
    go :
        (b : Bool)
        → empty s ≡ b
        → distinct (cond b (records_of t) (s ∷ records_of t)) ≡ true
        → (distinct (records_of t) ≡ true → length (view q t) ≤ 1)
        → length (view q (s ∷ t)) ≤ 1
    go true e d k = rw (holds-empty q s e) (k d)
    go false e d k = by (decide q (identity_of s))
      where
        parts : (every (differ (identity_of s)) (records_of t) ≡ true) × (distinct (records_of t) ≡ true)
        parts = (and-eq-true_iff (every (differ (identity_of s)) (records_of t)) (distinct (records_of t))).0 d

        by : Dec (q ≡ identity_of s) → length (view q (s ∷ t)) ≤ 1
        by (yes f) =
            let alone : length (view (identity_of s) t) ≡ 0 = eqb-true (length (view (identity_of s) t)) 0 (sym (differ-view (identity_of s) t) ∙ parts.0) in
            subst (λ (x : Identity). length (view x (s ∷ t)) ≤ 1) (sym f) (rw (holds_self s e) (omega arith))
        by (no f) = rw (holds_other q (identity_of s) s f (holds_self s e)) (k parts.1)

Single-distinct : (t : Slots) → Single t → distinct (records_of t) ≡ true
Single-distinct [] h = refl
Single-distinct (s ∷ t) h = go (empty s) refl (Single-distinct t)
  where
    go : (b : Bool) → empty s ≡ b → (Single t → distinct (records_of t) ≡ true) → distinct (cond b (records_of t) (s ∷ records_of t)) ≡ true
    go true e k = k (λ q. rw (holds-empty q s e) at (h q))
    go false e k =
        let own : suc (length (view (identity_of s) t)) ≤ 1 = rw (holds_self s e) at (h (identity_of s)) in
        rw (differ-view (identity_of s) t, eq-eqb (length (view (identity_of s) t)) 0 (omega arith)) (k (λ q. fewer q (holds q s) (h q)))
      where
        fewer : (q : Identity) (b : Bool) → length (cond b (s ∷ view q t) (view q t)) ≤ 1 → length (view q t) ≤ 1
        fewer q true l = omega arith
        fewer q false l = l

-- ---- a table in service

pub record Serving (t : Slots) : Type 0 where
  pub slots : length t ≡ 16
  pub sounds : every sound_in t ≡ true
  pub single : Single t

pub Serving-loadable : (t : Slots) → Serving t → loadable (records_of t) ≡ true
Serving-loadable t v =
    let few = le-leb (length (records_of t)) 16 (omega (arith, records_same t, records_few t, v.slots)) in
    rw (few, records_every sound t, v.sounds, Single-distinct t v.single)

-- no residence in it reaches the limit
pub sound_right : (t : Slots) → Serving t → every right_residence (records_of t) ≡ true
sound_right t v = go (records_of t) (records_every sound t ∙ v.sounds)
  where
    go : (rs : Slots) → every sound rs ≡ true → every right_residence rs ≡ true
    go [] e = refl
    go (r ∷ rs) e =
        let k = (and-eq-true_iff (sound r) (every sound rs)).0 e in
        rw (right r k.0) (go rs k.1)

pub loadable-Serving : (t : Slots) → length t ≡ 16 → loadable (records_of t) ≡ true → Serving t
loadable-Serving t l h =
    let k = loadable_parts (records_of t) h in
    record { slots = l; sounds = sym (records_every sound t) ∙ k.1; single = distinct-Single t k.2 }

-- records that can be loaded, filled up with empty slots; a new table and a loaded one are such
filled-length : (rs : Slots) → loadable rs ≡ true → length (filled rs) ≡ 16
filled-length rs h =
    length-append rs (replicate (16 - length rs) zeros) ∙ omega (arith, length-replicate (16 - length rs) zeros, (loadable_parts rs h).0)

filled-Serving : (t rs : Slots) → t ≡ filled rs → records_of t ≡ rs → loadable rs ≡ true → Serving t
filled-Serving t rs e f h = loadable-Serving t (ap length e ∙ filled-length rs h) (ap loadable f ∙ h)

pub new_serving : Serving (replicate 16 zeros)
new_serving = filled-Serving (replicate 16 zeros) [] refl refl refl

pub loaded_serving : (s : List ℕ) (t : Slots) → load_of s ≡ value t → Serving t
loaded_serving s t e =
    let k = load_as_sound (form_in s) s t e in
    filled-Serving t k.0 k.4 k.3 k.2

-- ---- what happens to it

length-view_aged : (v : Slots) → length (view_aged v) ≤ length v
length-view_aged [] = omega arith
length-view_aged (s ∷ v) = go (not (empty (aged s))) (length-view_aged v)
  where
    go : (b : Bool) → length (view_aged v) ≤ length v → length (cond b (aged s ∷ view_aged v) (view_aged v)) ≤ suc (length v)
    go true h = omega arith
    go false h = omega arith

pub Serving-ticked : (t : Slots) → Serving t → Serving (ticked t)
Serving-ticked t v =
    record {
      slots = length-map t aged ∙ v.slots;
      sounds = every_map sound_in aged sound_aged t v.sounds;
      single = λ q. rw (view-ticked q t) (omega (arith, length-view_aged (view q t), v.single q));
    }

serving_added :
    (q : Identity) (u : ℕ) (t : Slots) → sound (fresh q u) ≡ true → find q t ≡ none → vacant t ≡ true → Serving t → Serving (add_to q u t)
serving_added q u t s f r v =
    record {
      slots = length-set t (lowest empty t) (fresh q u) ∙ v.slots;
      sounds = every_set sound_in (fresh q u) s t (lowest empty t) v.sounds;
      single = λ p. go p (decide p q);
    }
  where
    go : (p : Identity) → Dec (p ≡ q) → length (view p (add_to q u t)) ≤ 1
    go p (yes e) = rw (e, view_add_own q u t (ltb-true (lowest empty t) (length t) r) (no_view q t f)) (omega arith)
    go p (no e) = rw (view_add_other p q u t e) (v.single p)

serving_removed : (q : Identity) (t : Slots) → Serving t → Serving (remove_from q t)
serving_removed q t v =
    record {
      slots = length-set t (lowest (holds q) t) zeros ∙ v.slots;
      sounds = every_set sound_in zeros refl t (lowest (holds q) t) v.sounds;
      single = λ p. go p (decide p q);
    }
  where
    shorter : (w : Slots) → length w ≤ 1 → length (tail w) ≤ 1
    shorter [] h = h
    shorter (s ∷ w) h = omega arith

    go : (p : Identity) → Dec (p ≡ q) → length (view p (remove_from q t)) ≤ 1
    go p (yes e) = rw (e, view_remove_own q t) (shorter (view q t) (v.single q))
    go p (no e) = rw (view_remove_other p q t e) (v.single p)

-- a request, where a record that it adds is sound
pub serving_request :
    (a : Request) (t : Slots)
    → ((q : Identity) (u : ℕ) → a ≡ add q u → sound (fresh q u) ≡ true)
    → Serving t
    → Serving (table_after a t)
serving_request nothing t s v = v
serving_request (add q u) t s v = go (find q t) refl (vacant t) refl
  where
    go : (o : Option Record) → find q t ≡ o → (b : Bool) → vacant t ≡ b → Serving (add_leaves q u t (add_answer o b))
    go (some r) e b f = v
    go none e false f = v
    go none e true f = serving_added q u t (s q u refl) e f v
serving_request (collect q) t s v = go (table_answer (collect q) t)
  where
    go : (a : Answer ℕ) → Serving (collect_leaves q t a)
    go (value u) = serving_removed q t v
    go (refused n) = v

-- a switchover, or none where the table cannot be written, leaves 16 slots
pub switched_slots : (t : Slots) → length t ≡ 16 → length (switched t) ≡ 16
switched_slots t l = go (loadable (records_of t)) refl
  where
    go : (b : Bool) → loadable (records_of t) ≡ b → length (switched t) ≡ 16
    go true h = ap length (switched_loaded t h) ∙ filled-length (records_of t) h
    go false h = ap length (switched_refused t h) ∙ l

-- and a table in service
pub Serving-switched : (t : Slots) → Serving t → Serving (switched t)
Serving-switched t v = go (loadable (records_of t)) refl
  where
    go : (b : Bool) → loadable (records_of t) ≡ b → Serving (switched t)
    go true h = filled-Serving (switched t) (records_of t) (switched_loaded t h) (switched_keeps t) h
    go false h = rw (switched_refused t h) v
