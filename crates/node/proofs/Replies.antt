-- Calls over plain values: what they come to, from what was read and from what the table answered.
-- Assumes nothing.
use Prim.Native.Nat.{ℕ, ◌<◌, ◌≤◌}
use mathlib.Core.Path.{◌≡◌, refl, ap}
use mathlib.Core.Bool.{Bool, true, false}
use mathlib.Core.Option.{Option, none, some}
use native.Mathlib.Omega.{arith}
use borrow.Author.Tests.{le-leb, lt-leb, ne_eqb}
use lib.Dec.{eqb}
use Rattle.refusal.specs.Answer.{Answer, value, refused, refusal_in, checked}
use Rattle.refusal.proofs.Answers.{not_both}
use Rattle.residence.specs.Residence.{Residence}
use Rattle.residence.specs.Residence.{accepted_of}
use Rattle.message.specs.declared.fields.Message.{Message}
use Rattle.message.specs.declared.fields.SubTlv.{SubTlv}
use Rattle.records.specs.declared.RecordKind.{RecordKind}
use Rattle.records.specs.declared.RecordKind.TheVariants.{Sync, Delay}
use Rattle.records.specs.declared.Identity.{Identity}
use Rattle.records.specs.declared.Record.{Record}
use Rattle.records.specs.Slots.{Slots, find, vacant, add_answer}
use Rattle.records.specs.Node.{table_answer}
use Rattle.rules.specs.declared.Handled.TheVariants.{Passed as passed}
use Rattle.rules.specs.Rules.{Call, two_step, first_of, ptp_kind, one_step_reply, update, as_it_came, keep_request, request_by}
use Rattle.rules.specs.Path.{units_of}

-- One-step: a PTPType up to 3 is updated, and one above is passed
module _ (c : Call) (t : SubTlv) where
  pub updates : t.ptp_type ≤ 3 → one_step_reply c (ptp_kind t) ≡ update c (accepted_of c.residence)
  updates h = by_zero (eqb t.ptp_type 0) refl
    where
      by_one : (b : Bool) → eqb t.ptp_type 0 ≡ false → eqb t.ptp_type 1 ≡ b → one_step_reply c (ptp_kind t) ≡ update c (accepted_of c.residence)
      by_one true e f = rw (e, f)
      by_one false e f = rw (e, f, le-leb t.ptp_type 3 h)

      by_zero : (b : Bool) → eqb t.ptp_type 0 ≡ b → one_step_reply c (ptp_kind t) ≡ update c (accepted_of c.residence)
      by_zero true e = rw e
      by_zero false e = by_one (eqb t.ptp_type 1) e refl

  pub passing : 3 < t.ptp_type → one_step_reply c (ptp_kind t) ≡ as_it_came c (value passed)
  passing h = by_eight (eqb t.ptp_type 8) refl
    where
      zero_not : eqb t.ptp_type 0 ≡ false
      zero_not = ne_eqb t.ptp_type 0 (λ e. omega arith)

      one_not : eqb t.ptp_type 1 ≡ false
      one_not = ne_eqb t.ptp_type 1 (λ e. omega arith)

      by_nine : (b : Bool) → eqb t.ptp_type 8 ≡ false → eqb t.ptp_type 9 ≡ b → one_step_reply c (ptp_kind t) ≡ as_it_came c (value passed)
      by_nine true e f = rw (zero_not, one_not, lt-leb t.ptp_type 3 h, e, f)
      by_nine false e f = rw (zero_not, one_not, lt-leb t.ptp_type 3 h, e, f)

      by_eight : (b : Bool) → eqb t.ptp_type 8 ≡ b → one_step_reply c (ptp_kind t) ≡ as_it_came c (value passed)
      by_eight true e = rw (zero_not, one_not, lt-leb t.ptp_type 3 h, e)
      by_eight false e = by_nine (eqb t.ptp_type 9) e refl

-- Two-step: a Sync with S set or a Delay_Req collects nothing, whatever the table answers
kept_alone : (q : Identity) (a : Answer ℕ) (t : Slots) → units_of (table_answer (keep_request q a) t) ≡ 0
kept_alone q (value u) t = go (find q t) (vacant t)
  where
    go : (o : Option Record) (b : Bool) → units_of (add_answer o b) ≡ 0
    go (some r) b = refl
    go none true = refl
    go none false = refl
kept_alone q (refused n) t = refl

pub none_collected : (k : RecordKind) (q : Identity) (x : Residence) (t : Slots) → units_of (table_answer (request_by two_step x (first_of k q)) t) ≡ 0
none_collected Sync q x t = kept_alone q (accepted_of x) t
none_collected Delay q x t = kept_alone q (accepted_of x) t

-- a message that the check refuses is refused by reading
pub unchecked : (a : Answer Message) (n : ℕ) → refused n ≡ checked a → refused n ≡ a
unchecked (value m) n e = absurd (not_both e)
unchecked (refused k) n e = ap (λ (x : Answer Unit). refused (refusal_in x)) e
