-- The octets that a node changes, read again: another pad changes the pad alone, a set S changes S alone, and a created message
-- is a Follow_Up of the Sync's identity with the residence as its pad.
-- Assumes nothing.
use Prim.Native.Nat.{ℕ, ◌+◌, ◌%◌, ◌<◌, ◌≤◌, ◌^◌}
use mathlib.Core.Path.{◌≡◌, refl, sym, ap, ◌∙◌}
use mathlib.Core.Bool.{Bool, true}
use mathlib.Core.List.{List, [], ◌∷◌, ◌++◌}
use native.Mathlib.Omega.{arith}
use borrow.Author.Tests.{le-leb, ltb-true}
use lib.Dec.{leb}
use lib.IntN.{ℤ, pos}
use lib.ListN.{length, get_or, drop}
use lib.Seq.{get_or-drop}
use mir.Syntax.{w64}
use mir.Val.{SFits, to_z, of_z}
use mir.ValLaws.{to_z-of_z, to_z_pos, of_z_fits}
use Rattle.octets.specs.Octets.{number, octets, signed_octets, put}
use Rattle.octets.proofs.Numbers.{number-octets, number-drop}
use Rattle.octets.proofs.Puts.{length-put, get_or_before, get_or_behind, get_or_there, drop_behind, number_before, number_behind, number_there, each, part_each}
use Rattle.message.specs.Read.{is_sub_tlv_length, is_sub_tlv, sub_tlv, message_value}
use Rattle.message.specs.Write.{g_ach_header}
use Rattle.message.proofs.Sound.{SoundHeader, SoundPtp, stated_length}
use Rattle.scratch_pad.proofs.Whole.{in_range}
use Rattle.records.specs.declared.RecordKind.TheVariants.{Sync}
use Rattle.records.specs.declared.Identity.{Identity}
use Rattle.rules.specs.Change.{pad_of, with_pad, with_two_step, follow_up_fields, follow_up_of}
use Rattle.rules.specs.Rules.{identity_in, ptp_kind, kind_of}
use Rattle.rules.proofs.Bearing.{Bears, taken}

-- a store that leaves the first four octets, Type and Length keeps a sound header
kept_header :
    (s vs : List ℕ) (n : ℕ) → 4 ≤ n
    → number 2 (put s n vs) 12 ≡ number 2 s 12
    → number 2 (put s n vs) 14 ≡ number 2 s 14
    → SoundHeader s
    → SoundHeader (put s n vs)
kept_header s vs n low type size k =
    let l = length-put s vs n in
    let first = get_or_before s vs n 0 (omega arith) in
    let channel = number_before s vs n 2 2 (omega arith) in
    record {
      long = rw l k.long;
      short = rw l k.short;
      rtm = rw (first, channel) k.rtm;
      current = rw first k.current;
      size = rw (size, l) k.size;
      known = rw type k.known;
    }

-- and one that also leaves the sub-TLV's type and length keeps a sound message of types 2 to 4
kept :
    (s vs : List ℕ) (n : ℕ) → 4 ≤ n
    → number 2 (put s n vs) 12 ≡ number 2 s 12
    → number 2 (put s n vs) 14 ≡ number 2 s 14
    → is_sub_tlv (message_value (put s n vs)) ≡ true
    → SoundPtp s
    → SoundPtp (put s n vs)
kept s vs n low type size is h =
    record {
      sound = kept_header s vs n low type size h.sound;
      not_one = λ e. h.not_one (sym type ∙ e);
      not_five = λ e. h.not_five (sym type ∙ e);
      long = rw (length-put s vs n) h.long;
      is = is;
    }

-- another pad
module _ (s : List ℕ) (z : ℤ) (f : in_range z ≡ true) where
  fits : SFits w64 z
  fits = record { sfits = ltb-true _ _ f }

  pub with_pad_pad : 12 ≤ length s → pad_of (with_pad s z) ≡ z
  with_pad_pad l = ap (to_z w64) (number_there s 4 8 (of_z w64 z) (omega arith) (of_z_fits w64 z fits).fits) ∙ to_z-of_z w64 z fits

  -- the message is of the same kind
  pub with_pad_kind : SoundPtp s → kind_of (with_pad s z) ≡ kind_of s
  with_pad_kind h =
      let vs = signed_octets z in
      let type = number_behind s vs 4 2 12 (omega arith) in
      let size = number_behind s vs 4 2 14 (omega arith) in
      let v = drop_behind s vs 4 16 (omega arith) in
      taken (with_pad s z) (kept s vs 4 (omega arith) type size (rw v h.is) h)
      ∙ ap (λ (w : List ℕ). ptp_kind (sub_tlv w)) v
      ∙ sym (taken s h)

module _ (s : List ℕ) (k : ℕ) (b : Bool) (q : Identity) (m : Bears s k b q) where
  long : 36 ≤ length s
  long = m.sound.long

  module _ (x : ℕ) (set : leb 128 x ≡ true) where
    -- octet 20 of the message alone is another
    low : (w i : ℕ) → i + w ≤ 4 → number w (drop 16 (put s 20 (x ∷ []))) i ≡ number w (drop 16 s) i
    low w i h = number-drop w 16 i (put s 20 (x ∷ [])) ∙ number_before s (x ∷ []) 20 w (16 + i) (omega arith) ∙ sym (number-drop w 16 i s)

    high : (w i : ℕ) → 5 ≤ i → number w (drop 16 (put s 20 (x ∷ []))) i ≡ number w (drop 16 s) i
    high w i h = number-drop w 16 i (put s 20 (x ∷ [])) ∙ number_behind s (x ∷ []) 20 w (16 + i) (omega arith) ∙ sym (number-drop w 16 i s)

    octet : get_or (drop 16 (put s 20 (x ∷ []))) 4 0 ≡ x
    octet = get_or-drop 16 (put s 20 (x ∷ [])) 4 0 ∙ get_or_there s 20 x (omega (arith, long))

    last : get_or (drop 16 (put s 20 (x ∷ []))) 7 0 ≡ get_or (drop 16 s) 7 0
    last = get_or-drop 16 (put s 20 (x ∷ [])) 7 0 ∙ get_or_behind s (x ∷ []) 20 23 (omega arith) ∙ sym (get_or-drop 16 s 7 0)

    pub flag_bears : Bears (put s 20 (x ∷ [])) k true q
    flag_bears =
        let vs = x ∷ [] in
        let type = number_before s vs 20 2 12 (omega arith) in
        let size = number_before s vs 20 2 14 (omega arith) in
        let h = m.sound in
        let clock = high 8 8 (omega arith) in
        let port = high 2 16 (omega arith) in
        let sequence = high 2 18 (omega arith) in
        let same : identity_in Sync (sub_tlv (drop 16 (put s 20 vs))) ≡ identity_in Sync (sub_tlv (drop 16 s)) =
        λ i. record { kind = Sync; clock = clock i; port = port i; sequence = sequence i } in
        record {
          sound = kept s vs 20 (omega arith) type size (rw (low 2 0 (omega arith), low 2 2 (omega arith)) h.is) h;
          kind = rw last m.kind;
          at_two_step = rw octet set;
          who = same ∙ m.who;
        }

  pub with_two_step-Bears : Bears (with_two_step s) k true q
  with_two_step-Bears = flag_bears (get_or s 20 0 % 128 + 128) (le-leb 128 (get_or s 20 0 % 128 + 128) (omega arith))

  pub with_two_step_pad : pad_of (with_two_step s) ≡ pad_of s
  with_two_step_pad = ap (to_z w64) (number_before s ((get_or s 20 0 % 128 + 128) ∷ []) 20 8 4 (omega arith))

  -- the created Follow_Up, octet by octet
  module _ (u : ℕ) (small : u < 2 ^ 63) where
    abbrev written : List ℕ
    written =
        g_ach_header ++ octets 8 u ++ each 2 12 s ++ follow_up_fields (each 2 18 s) ++ each 12 24 s

    follow_up_octets : follow_up_of s u ≡ written
    follow_up_octets = rw (part_each 2 12 s (omega (arith, long)), part_each 2 18 s (omega (arith, long)), part_each 12 24 s (omega (arith, long)))

    pub follow_up_length : length (follow_up_of s u) ≡ 36
    follow_up_length = ap length follow_up_octets

    written_pad : pad_of written ≡ pos u
    written_pad =
        ap (to_z w64) (number-octets 8 u 4 g_ach_header (each 2 12 s ++ follow_up_fields (each 2 18 s) ++ each 12 24 s) refl (omega arith))
        ∙ to_z_pos w64 u small

    pub follow_up_pad : pad_of (follow_up_of s u) ≡ pos u
    follow_up_pad = ap pad_of follow_up_octets ∙ written_pad

    written-Bears : Bears written 8 true q
    written-Bears =
        let h = m.sound in
        let clock = number-drop 8 16 8 s in
        let port = number-drop 2 16 16 s in
        let sequence = number-drop 2 16 18 s in
        let same : identity_in Sync (sub_tlv (drop 16 written)) ≡ identity_in Sync (sub_tlv (drop 16 s)) =
        λ i. record { kind = Sync; clock = sym clock i; port = sym port i; sequence = sym sequence i } in
        record {
          sound =
              record {
                sound = record { long = omega arith; short = omega arith; rtm = refl; current = refl; size = refl; known = h.sound.known };
                not_one = h.not_one;
                not_five = h.not_five;
                long = omega arith;
                is = ap is_sub_tlv_length (sym (number-drop 2 16 2 s)) ∙ stated_length (message_value s) h.is;
              };
          kind = refl;
          at_two_step = refl;
          who = same ∙ m.who;
        }

    pub follow_up_bears : Bears (follow_up_of s u) 8 true q
    follow_up_bears = rw follow_up_octets written-Bears
