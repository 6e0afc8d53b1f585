-- The round trip: the header's reader reads the header's octets, the sub-TLV's reader the sub-TLV's, and the packet is what stands behind them.
-- Assumes nothing.
use Prim.Native.Nat.{ℕ, ◌+◌, ◌%◌, ◌<◌, ◌≤◌, ◌^◌}
use mathlib.Core.Path.{◌≡◌, refl, sym, ap, ◌∙◌}
use mathlib.Core.Bool.{Bool, true, false, not, cond, ◌&&◌}
use mathlib.Core.List.{List, ◌++◌}
use native.Mathlib.Omega.{arith}
use borrow.Author.Tests.{ltb-false, not-false}
use lib.Dec.{ltb, leb}
use lib.ListN.{length, take, drop}
use lib.Seq.{take_at}
use mir.Syntax.{w64}
use mir.Val.{SFits, to_z, of_z}
use mir.ValLaws.{to_z-of_z, of_z_fits}
use Rattle.octets.specs.Octets.{number, octets, signed_octets, signed_number}
use Rattle.octets.proofs.Numbers.{number-octets}
use Rattle.refusal.specs.Answer.{Answer, value, refuse, and_then}
use Rattle.message.specs.declared.fields.Header.{Header}
use Rattle.message.specs.declared.fields.SubTlv.{SubTlv}
use Rattle.message.specs.declared.fields.Fields.{Fields}
use Rattle.message.specs.declared.fields.Message.{Message}
use Rattle.message.specs.declared.fields.Message.TheVariants.{Plain, Ptp}
use Rattle.message.specs.Read.{is_type, is_ptp, is_sub_tlv_length, sub_tlv, header, header_of, sub_tlv_of, message_of, read_of, carried_by, carried_of}
use Rattle.message.specs.Write.{g_ach_header, header_octets, sub_tlv_header, flag_octets, sub_tlv_octets, ptp_octets, plain_octets, message_octets, output_by, write_of}
use Rattle.message.specs.RoundTrip.{Sized, reported, RoundTrip}
use Rattle.message.proofs.Sound.{header_taken, sub_tlv_taken}
use Rattle.message.proofs.Accepted.{Accepted, accepted, known_types, sub_tlv_lengths, ptp_size, plain_size}
use Rattle.message.proofs.Content.{ptp-value, plain_value}

module _ (h : Header) (v : List ℕ) (fits : SFits w64 h.pad) (known : is_type h.message_type ≡ true) (short : length v ≤ 2032) where
  header_pad : signed_number (header_octets h (length v) ++ v) 4 ≡ h.pad
  header_pad =
      ap (to_z w64) (number-octets 8 (of_z w64 h.pad) 4 g_ach_header (octets 2 h.message_type ++ octets 2 (length v) ++ v) refl (of_z_fits w64 h.pad fits).fits)
      ∙ to_z-of_z w64 h.pad fits

  header_type : number 2 (header_octets h (length v) ++ v) 12 ≡ h.message_type
  header_type =
      number-octets 2 h.message_type 12 (g_ach_header ++ signed_octets h.pad) (octets 2 (length v) ++ v) refl (omega (arith, known_types h.message_type known))

  header_length : number 2 (header_octets h (length v) ++ v) 14 ≡ length v
  header_length = number-octets 2 (length v) 14 (g_ach_header ++ signed_octets h.pad ++ octets 2 h.message_type) v refl (omega arith)

  pub header_read : header_of (header_octets h (length v) ++ v) ≡ value h
  header_read =
      let same : header (header_octets h (length v) ++ v) ≡ h = λ i. record { message_type = header_type i; pad = header_pad i } in
      header_taken (header_octets h (length v) ++ v)
      (record {
        long = omega arith;
        short = omega arith;
        rtm = refl;
        current = refl;
        size = header_length ∙ omega arith;
        known = ap (λ (g : Header). is_type g.message_type) same ∙ known;
      })
      ∙ ap value same

-- the S bit that was written
flag : (s : Bool) → leb 128 (cond s 128 0) ≡ s
flag true = refl
flag false = refl

module _ (t : SubTlv) (v : List ℕ) (stated : is_sub_tlv_length t.length ≡ true) (kind : t.ptp_type ≤ 15) (clock : t.clock < 2 ^ 64) (port : t.port < 2 ^ 16) (sequence : t.sequence < 2 ^ 16) where
  sub_tlv_length : number 2 (sub_tlv_octets t ++ v) 2 ≡ t.length
  sub_tlv_length =
      number-octets 2 t.length 2 (octets 2 1) (flag_octets t.two_step t.ptp_type ++ octets 8 t.clock ++ octets 2 t.port ++ octets 2 t.sequence ++ v) refl (omega (arith, sub_tlv_lengths t.length stated))

  sub_tlv_clock : number 8 (sub_tlv_octets t ++ v) 8 ≡ t.clock
  sub_tlv_clock = number-octets 8 t.clock 8 (sub_tlv_header t.length ++ flag_octets t.two_step t.ptp_type) (octets 2 t.port ++ octets 2 t.sequence ++ v) refl clock

  sub_tlv_port : number 2 (sub_tlv_octets t ++ v) 16 ≡ t.port
  sub_tlv_port =
      number-octets 2 t.port 16 (sub_tlv_header t.length ++ flag_octets t.two_step t.ptp_type ++ octets 8 t.clock) (octets 2 t.sequence ++ v) refl port

  sub_tlv_sequence : number 2 (sub_tlv_octets t ++ v) 18 ≡ t.sequence
  sub_tlv_sequence =
      number-octets 2 t.sequence 18 (sub_tlv_header t.length ++ flag_octets t.two_step t.ptp_type ++ octets 8 t.clock ++ octets 2 t.port) v refl sequence

  sub_tlv_kind : t.ptp_type % 16 ≡ t.ptp_type
  sub_tlv_kind = omega arith

  pub sub_tlv_read : sub_tlv_of (sub_tlv_octets t ++ v) ≡ value t
  sub_tlv_read =
      let same : sub_tlv (sub_tlv_octets t ++ v) ≡ t =
      λ i. record { length = sub_tlv_length i; two_step = flag t.two_step i; ptp_type = sub_tlv_kind i; clock = sub_tlv_clock i; port = sub_tlv_port i; sequence = sub_tlv_sequence i } in
      sub_tlv_taken (sub_tlv_octets t ++ v) (omega arith) (ap is_sub_tlv_length sub_tlv_length ∙ stated) ∙ ap value same

-- whole messages
module _ (f : Fields) (v : List ℕ) (room n : ℕ) (w : Sized f) (a : Accepted f.header.message_type f.sub_tlv (length v) room n) where
  ptp_read : is_ptp f.header.message_type ≡ true → read_of (ptp_octets f v) ≡ value (Ptp f.header f.sub_tlv)
  ptp_read p =
      let h = f.header in
      let t = f.sub_tlv in
      let z = ptp_size a p in
      let k : t.ptp_type ≤ 15 = ltb-false 15 t.ptp_type (ap (λ (b : Bool). b && ltb 15 t.ptp_type) (sym p) ∙ a.kind) in
      let l : is_sub_tlv_length t.length ≡ true = not-false (is_sub_tlv_length t.length) (ap (λ (b : Bool). b && not (is_sub_tlv_length t.length)) (sym p) ∙ a.stated) in
      let size : 20 + length v ≡ length (sub_tlv_octets t ++ v) = omega arith in
      let e = header_read h (sub_tlv_octets t ++ v) w.pad a.known (omega arith) in
      let g = sub_tlv_read t v l k w.clock w.port w.sequence in
      ap (λ (k : ℕ). read_of (header_octets h k ++ (sub_tlv_octets t ++ v))) size
      ∙ ap (λ (x : Answer Header). and_then x (λ y. message_of y (sub_tlv_octets t ++ v))) e
      ∙ ptp-value h (sub_tlv_octets t ++ v) p
      ∙ ap (λ (x : Answer SubTlv). and_then x (λ y. value (Ptp h y))) g

  plain_read : is_ptp f.header.message_type ≡ false → read_of (plain_octets f.header v) ≡ value (Plain f.header)
  plain_read p =
      let h = f.header in
      let z = plain_size a p in
      ap (λ (x : Answer Header). and_then x (λ y. message_of y v)) (header_read h v w.pad a.known (omega arith))
      ∙ plain_value h v a.known p
      ∙ ap (λ (b : Bool). refuse 7 b (value (Plain h))) a.empty

-- the octets written are the message, and what stands behind its fields is the packet
pub round_trip : RoundTrip
round_trip f v o n w e = go (is_ptp f.header.message_type) refl
  where
    k : Accepted f.header.message_type f.sub_tlv (length v) (length o) n
    k = accepted f.header.message_type f.sub_tlv (length v) (length o) n e

    Claim : List ℕ → Message → Type 0
    Claim m r = (read_of m ≡ value r) × (carried_of m ≡ v)

    written : (m : List ℕ) → message_octets f v ≡ m → length m ≡ n → take n (write_of f v o).output ≡ m
    written m q size = ap (λ (x : Answer ℕ). take n (output_by f v o x)) e ∙ ap (λ (l : List ℕ). take n (l ++ drop n o)) q ∙ take_at m (drop n o) n size

    go : (b : Bool) → is_ptp f.header.message_type ≡ b → Claim (take n (write_of f v o).output) (reported f)
    go true p =
        let m = ptp_octets f v in
        let r = ptp_read f v (length o) n w k p in
        let z = ptp_size k p in
        rw (written m (ap (λ (b : Bool). cond b m (plain_octets f.header v)) p) (omega arith), p) (r, ap (carried_by m) r)
    go false p =
        let m = plain_octets f.header v in
        let r = plain_read f v (length o) n w k p in
        let z = plain_size k p in
        rw (written m (ap (λ (b : Bool). cond b (ptp_octets f v) m) p) (omega arith), p) (r, ap (carried_by m) r)
