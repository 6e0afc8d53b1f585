-- The pad of a message, whichever kind it is: that of its header.
-- Assumes nothing.
use Rattle.std.proofs.Common.{◌≡◌, ℕ, Bool, true, false, cond, List, refl}
use Rattle.message.specs.declared.fields.Message.TheVariants.{Plain, Ptp}
use Rattle.message.specs.Read.{header, message_value, is_ptp, sub_tlv, content_of}
use Rattle.egress.specs.Join.{pad_in}

pub pad_in_lem : (s : List ℕ) → pad_in (content_of s) ≡ (header s).pad
pad_in_lem s = by_type (is_ptp (header s).message_type)
  where
    by_type : (p : Bool) → pad_in (cond p (Ptp (header s) (sub_tlv (message_value s))) (Plain (header s))) ≡ (header s).pad
    by_type true = refl
    by_type false = refl
