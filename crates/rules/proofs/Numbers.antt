-- The numbers that a node call is refused with: each comes from the reader, the residence, the table or a rule, or is 12 where the output
-- is too small. None of these is 11.
-- Assumes nothing.
use Prim.Native.Nat.{ℕ, ◌≤◌}
use mathlib.Core.Path.{◌≡◌, refl}
use mathlib.Core.Bool.{Bool, true, false, cond}
use mathlib.Core.List.{List}
use mathlib.Core.Logic.{inl, inr}
use mathlib.Core.Option.{Option, none, some}
use native.Mathlib.Omega.{arith}
use borrow.Author.Tests.{ltb-true}
use lib.Dec.{ltb, leb, eqb}
use lib.ListN.{length}
use Rattle.refusal.specs.Answer.{Answer, value, refused}
use Rattle.refusal.proofs.Answers.{Numbered, its_number, numbered_by}
use Rattle.residence.specs.Residence.{Residence}
use Rattle.residence.specs.Residence.{accepted_of}
use Rattle.residence.proofs.Limit.{NineOrTen, nine_or_ten}
use Rattle.message.specs.declared.fields.SubTlv.{SubTlv}
use Rattle.message.specs.declared.fields.Message.{Message}
use Rattle.message.specs.declared.fields.Message.TheVariants.{Plain, Ptp}
use Rattle.message.specs.Read.{read_of}
use Rattle.message.proofs.Numbers.{read_numbers}
use Rattle.records.specs.declared.RecordKind.TheVariants.{Sync, Delay}
use Rattle.records.specs.declared.Record.{Record}
use Rattle.records.specs.Slots.{Slots, find, vacant, add_answer, collect_answer}
use Rattle.records.specs.Node.{Request, nothing, add, collect, table_answer}
use Rattle.rules.specs.Rules.{Kind, sync, follow_up, delay_req, delay_resp, timed, untimed, unreadable, identity_in, ptp_kind, kind_by, kind_of, Mode, one_step, two_step, Call, Word, update, one_step_reply, create_in, create, keep, gather, two_step_reply, reply_by, two_step_request, request_by}
use Rattle.rules.specs.Numbers.{GivenAt, Given, NumbersGiven, ElevenWithdrawn}

-- an answer of a node in this mode whose number, if it is refused, is given
abbrev Fine : {A : Type 0} → Mode → Call → Answer A → Type 0
Fine m c a = Numbered (GivenAt m c) a

low : (m : Mode) (c : Call) (n : ℕ) → 1 ≤ n → n ≤ 10 → GivenAt m c n
low one_step c n a b = (a, b)
low two_step c n a b = inl (a, omega arith)

high : (c : Call) (n : ℕ) → 13 ≤ n → n ≤ 16 → GivenAt two_step c n
high c n a b = inr (inr (a, b))

-- in either mode: the numbers of the residence, and of a message that the reader refuses
module _ (m : Mode) (c : Call) where
  accepted_fine : (r : Residence) → Fine m c (accepted_of r)
  accepted_fine r = numbered_by (GivenAt m c) (accepted_of r) (λ n e. by n (nine_or_ten r n e))
    where
      by : (n : ℕ) → NineOrTen n → GivenAt m c n
      by n (inl e) = low m c n (omega arith) (omega arith)
      by n (inr e) = low m c n (omega arith) (omega arith)

  abbrev Read : Kind → Type 0
  Read (sync q s) = Unit {0}
  Read (follow_up q) = Unit {0}
  Read (delay_req q) = Unit {0}
  Read (delay_resp q) = Unit {0}
  Read timed = Unit {0}
  Read untimed = Unit {0}
  Read (unreadable n) = GivenAt m c n

  ptp_read : (t : SubTlv) → Read (ptp_kind t)
  ptp_read t = go (eqb t.ptp_type 0) (eqb t.ptp_type 1) (leb t.ptp_type 3) (eqb t.ptp_type 8) (eqb t.ptp_type 9)
    where
      go :
          (a b c d e : Bool)
          → Read
          (cond a (sync (identity_in Sync t) t.two_step)
          (cond b (delay_req (identity_in Delay t)) (cond c timed (cond d (follow_up (identity_in Sync t)) (cond e (delay_resp (identity_in Delay t)) untimed)))))
      go true b c d e = tt
      go false true c d e = tt
      go false false true d e = tt
      go false false false true e = tt
      go false false false false true = tt
      go false false false false false = tt

  kind_read : (s : List ℕ) → Read (kind_of s)
  kind_read s = go (read_of s) refl
    where
      go : (a : Answer Message) → read_of s ≡ a → Read (kind_by a)
      go (value (Plain h)) e = tt
      go (value (Ptp h t)) e = ptp_read t
      go (refused n) e = low m c n (read_numbers s n e).0 (omega (arith, (read_numbers s n e).1))

-- a one-step node
module _ (c : Call) where
  update-Fine : (a : Answer ℕ) → Fine one_step c a → Fine one_step c (update c a).answer
  update-Fine (value u) f = tt
  update-Fine (refused n) f = f

  updated_fine : Fine one_step c (update c (accepted_of c.residence)).answer
  updated_fine = update-Fine (accepted_of c.residence) (accepted_fine one_step c c.residence)

  one_step-Fine : (k : Kind) → Read one_step c k → Fine one_step c (one_step_reply c k).answer
  one_step-Fine (sync q s) r = updated_fine
  one_step-Fine (delay_req q) r = updated_fine
  one_step-Fine timed r = updated_fine
  one_step-Fine (follow_up q) r = tt
  one_step-Fine (delay_resp q) r = tt
  one_step-Fine untimed r = tt
  one_step-Fine (unreadable n) r = r

-- a two-step node, with the table's numbers
module _ (c : Call) where
  table_fine : (a : Request) (t : Slots) → Fine two_step c (table_answer a t)
  table_fine nothing t = tt
  table_fine (add q u) t = go (find q t) (vacant t)
    where
      go : (o : Option Record) (b : Bool) → Fine two_step c (add_answer o b)
      go (some r) b = high c 13 (omega arith) (omega arith)
      go none true = tt
      go none false = high c 14 (omega arith) (omega arith)
  table_fine (collect q) t = go (find q t)
    where
      go : (o : Option Record) → Fine two_step c (collect_answer o)
      go none = high c 15 (omega arith) (omega arith)
      go (some r) = tt

  create-Fine : (a : Answer ℕ) → Fine two_step c a → Fine two_step c (create c a).answer
  create-Fine (value u) f = room (ltb (length c.output) 36) refl
    where
      room : (b : Bool) → ltb (length c.output) 36 ≡ b → Fine two_step c (create_in c u b).answer
      room true e = inr (inl (refl, ltb-true (length c.output) 36 e))
      room false e = tt
  create-Fine (refused n) f = f

  keep-Fine : (a t : Answer ℕ) → Fine two_step c a → Fine two_step c t → Fine two_step c (keep c a t).answer
  keep-Fine (value u) (value v) f g = tt
  keep-Fine (value u) (refused n) f g = g
  keep-Fine (refused n) t f g = f

  kept_fine : (t : Answer ℕ) → Fine two_step c t → Fine two_step c (keep c (accepted_of c.residence) t).answer
  kept_fine t f = keep-Fine (accepted_of c.residence) t (accepted_fine two_step c c.residence) f

  gather-Fine : (t : Answer ℕ) → Fine two_step c t → Fine two_step c (gather c t).answer
  gather-Fine (value u) f = tt
  gather-Fine (refused n) f = f

  two_step-Fine : (t : Answer ℕ) (k : Kind) → Fine two_step c t → Read two_step c k → Fine two_step c (two_step_reply c t k).answer
  two_step-Fine t (sync q false) f r = create-Fine (accepted_of c.residence) (accepted_fine two_step c c.residence)
  two_step-Fine t (sync q true) f r = kept_fine t f
  two_step-Fine t (delay_req q) f r = kept_fine t f
  two_step-Fine t (follow_up q) f r = gather-Fine t f
  two_step-Fine t (delay_resp q) f r = gather-Fine t f
  two_step-Fine t timed f r = high c 16 (omega arith) (omega arith)
  two_step-Fine t untimed f r = tt
  two_step-Fine t (unreadable n) f r = r

abbrev call_answer : Mode → Call → Slots → Kind → Answer Word
call_answer m c t k = (reply_by m c (table_answer (request_by m c.residence k) t) k).answer

reply_fine : (m : Mode) (c : Call) (t : Slots) (k : Kind) → Read m c k → Fine m c (call_answer m c t k)
reply_fine one_step c t k r = one_step-Fine c k r
reply_fine two_step c t k r = two_step-Fine c (table_answer (two_step_request c.residence k) t) k (table_fine c (two_step_request c.residence k) t) r

pub numbers_given : NumbersGiven
numbers_given t m c n e =
    let k = kind_of c.message in
    its_number (Given c) (call_answer c.mode c t k) n (reply_fine c.mode c t k (kind_read c.mode c c.message)) e

pub eleven_withdrawn : ElevenWithdrawn
eleven_withdrawn t m c e = go c.mode (numbers_given t m c 11 e)
  where
    go : (x : Mode) → GivenAt x c 11 → ⊥
    go one_step g = omega (arith, g.1)
    go two_step (inl g) = omega (arith, g.1)
    go two_step (inr (inl g)) = omega (arith, g.0)
    go two_step (inr (inr g)) = omega (arith, g.0)
