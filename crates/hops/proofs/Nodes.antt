-- A node of a path that is made of hops: an empty table, a call on the Sync and, where there is a Follow_Up, then one on that. What it
-- answers, that it refuses neither, and that both stay what they are.
-- Assumes nothing.
use Prim.Native.Nat.{ℕ}
use mathlib.Core.Path.{◌≡◌, refl, ap, ◌∙◌}
use mathlib.Core.Bool.{Bool, true, false, ◌||◌}
use mathlib.Core.List.{List, [], ◌∷◌}
use mathlib.Core.Logic.{inl, inr}
use mathlib.Core.Option.{Option, none, some}
use native.Mathlib.Omega.{arith}
use lib.ListN.{replicate}
use Rattle.refusal.specs.Answer.{Answer, value, refused}
use Rattle.std.specs.Prelude.{Ok}
use Rattle.residence.specs.Residence.{accepted_of}
use Rattle.records.specs.declared.Identity.{Identity}
use Rattle.records.specs.Slots.{Slots, holds, zeros}
use Rattle.records.specs.Node.{Event, call, collect, table_answer, table_after}
use Rattle.records.proofs.Holding.{same_refl}
use Rattle.rules.specs.declared.Handled.{Handled as Word}
use Rattle.rules.specs.declared.Handled.TheVariants.{Updated as updated, Passed as passed, Created as created, Waiting as waiting, Added as added}
use Rattle.rules.specs.Rules.{Kind, sync, follow_up, kind_of, kind_identity, Mode, one_step, two_step, Call}
use Rattle.rules.specs.Rules.{Reply, add_to_pad, update, create, keep, gather, reply_by, keep_request, request_by, rules}
use Rattle.rules.specs.Path.{Stop, SecondUnrefused, Apart, of_sync}
use Rattle.rules.proofs.Bearing.{sound_ptp}
use Rattle.rules.specs.Credited.{says}
use Rattle.rules.proofs.Calls.{added_kind, first_call}
use Rattle.rules.proofs.Samples.{after, apart}
use Rattle.hops.specs.Shown.{Bare}

-- its table, which is empty
abbrev pub no_records : Slots
no_records = replicate 16 zeros

-- a call with room for a Follow_Up
abbrev pub call_on : Mode → ℕ → List ℕ → Call
call_on m u s = record { mode = m; message = s; residence = Ok u; output = replicate 36 0 }

-- the Follow_Up's call, if there is one, and its place
abbrev pub second_call : Mode → ℕ → Option (List ℕ) → List (Event Call)
second_call m u none = []
second_call m u (some f) = call (call_on m u f) ∷ []

abbrev pub place_of : Option (List ℕ) → Option ℕ
place_of none = none
place_of (some f) = some 1

-- the node of a mode and a residence, by the octets that come to it
abbrev pub node : Mode → ℕ → List ℕ → Option (List ℕ) → Stop
node m u s o =
    record { mode = m; table = no_records; events = call (call_on m u s) ∷ second_call m u o; first_place = 0; second_place = place_of o }

-- what it replies to the Sync, and then to the Follow_Up
abbrev pub reply_to : Call → Slots → Reply
reply_to c t = rules.reply c (table_answer (rules.request c) t)

abbrev pub first_reply : Mode → ℕ → List ℕ → Reply
first_reply m u s = reply_to (call_on m u s) no_records

abbrev pub second_reply : Mode → ℕ → List ℕ → List ℕ → Reply
second_reply m u s f = reply_to (call_on m u f) (table_after (rules.request (call_on m u s)) no_records)

-- its answer to a Sync with this S, and to the Follow_Up where S is set
abbrev pub first_word : Mode → Bool → Word
first_word one_step b = updated
first_word two_step true = waiting
first_word two_step false = created

abbrev second_word : Mode → Word
second_word one_step = passed
second_word two_step = added

-- the Follow_Up as it leaves the node
abbrev second_left : Mode → ℕ → List ℕ → List ℕ
second_left one_step u f = f
second_left two_step u f = (add_to_pad (call_on two_step u f) added u).message

-- no record and no other call there has the identity
pub node-Apart : (q : Identity) (m : Mode) (u : ℕ) (s : List ℕ) (o : Option (List ℕ)) → Apart q (node m u s o)
unfolding holds
node-Apart q m u s none = apart q (node m u s none) refl (λ e. inl refl, tt)
node-Apart q m u s (some f) = apart q (node m u s (some f)) refl (λ e. inl refl, (λ e. inr refl, tt))

-- it gets those calls alone
pub node-Bare : (m : Mode) (u : ℕ) (s : List ℕ) (o : Option (List ℕ)) → Bare (node m u s o)
node-Bare m u s none = (refl, refl, inl (refl, refl))
node-Bare m u s (some f) = (refl, refl, inr (refl, refl))

-- an answer with a word is no refusal
pub not_refused : {o : Option (Answer Word)} {w : Word} → o ≡ some (value w) → (a : ℕ) → o ≡ some (refused a) → ⊥
not_refused e a f = let z : ◌≡◌ {A = ℕ} 0 1 = cc in omega arith

-- the record of a Sync with S set is found
found :
    (q : Identity) (u : ℕ)
    → accepted_of (Ok u) ≡ value u
    → table_answer (collect q) (table_after (keep_request q (accepted_of (Ok u))) no_records) ≡ value u
unfolding holds
found q u accepted = rw (accepted, same_refl q)

module _ (q : Identity) (u : ℕ) (accepted : accepted_of (Ok u) ≡ value u) (s : List ℕ) where
  -- the answer to the Sync
  pub first_answer_lem : (m : Mode) (b : Bool) → kind_of s ≡ sync q b → (first_reply m u s).answer ≡ value (first_word m b)
  unfolding holds
  first_answer_lem m b k =
      ap (λ (x : Kind). (reply_by m (call_on m u s) (table_answer (request_by m (Ok u) x) no_records) x).answer) k ∙ by m b
    where
      by :
          (m : Mode) (b : Bool)
          → (reply_by m (call_on m u s) (table_answer (request_by m (Ok u) (sync q b)) no_records) (sync q b)).answer ≡ value (first_word m b)
      by one_step b = ap (λ (x : Answer ℕ). (update (call_on one_step u s) x).answer) accepted
      by two_step true = ap (λ (x : Answer ℕ). (keep (call_on two_step u s) x (table_answer (keep_request q x) no_records)).answer) accepted
      by two_step false = ap (λ (x : Answer ℕ). (create (call_on two_step u s) x).answer) accepted

  -- the Sync stays one, and has S set where it had, or where the node created a Follow_Up
  pub first_kind :
      (m : Mode) (b : Bool) → kind_of s ≡ sync q b → kind_of (first_reply m u s).message ≡ sync q (b || says created (some (value (first_word m b))))
  first_kind m b k =
      let c = call_on m u s in
      (first_call c (table_answer (rules.request c) no_records) q (of_sync b) m refl k).kind
      ∙ ap (λ (a : Answer Word). sync q (b || says created (some a))) (first_answer_lem m b k)

  module _ (f : List ℕ) (k : kind_of s ≡ sync q true) (l : kind_of f ≡ follow_up q) where
    -- the reply to the Follow_Up
    second_reply_lem : (m : Mode) → second_reply m u s f ≡ after (second_word m) (second_left m u f) (replicate 36 0)
    second_reply_lem m = (λ i. by_kinds m (k i) (l i)) ∙ by m
      where
        by_kinds : Mode → Kind → Kind → Reply
        by_kinds m x y = reply_by m (call_on m u f) (table_answer (request_by m (Ok u) y) (table_after (request_by m (Ok u) x) no_records)) y

        by : (m : Mode) → by_kinds m (sync q true) (follow_up q) ≡ after (second_word m) (second_left m u f) (replicate 36 0)
        by one_step = refl
        by two_step = ap (gather (call_on two_step u f)) (found q u accepted)

    -- is no refusal
    pub second_unrefused : (m : Mode) → SecondUnrefused (node m u s (some f))
    second_unrefused m = not_refused (ap (λ (r : Reply). some r.answer) (second_reply_lem m))

    -- and leaves it a Follow_Up
    pub second_kind : (m : Mode) → kind_of (second_reply m u s f).message ≡ follow_up q
    second_kind m = ap (λ (r : Reply). kind_of r.message) (second_reply_lem m) ∙ by m
      where
        by : (m : Mode) → kind_of (second_left m u f) ≡ follow_up q
        by one_step = l
        by two_step = added_kind (call_on two_step u f) added u (sound_ptp f q (ap kind_identity l)) ∙ l
