-- The PTPv2 header, 34 octets, its fields in the order of IEEE 1588's figure (13.3).
use Rattle.std.specs.Prelude.{ℕ, ◌/◌, ◌%◌, List, ℤ, get_or}
use Rattle.octets.specs.Octets.{number, signed_number}

pub record PtpHeader : Type 0 where
  pub major_sdo_id : ℕ
  pub message_type : ℕ
  pub minor_version_ptp : ℕ
  pub version_ptp : ℕ
  pub message_length : ℕ
  pub domain_number : ℕ
  pub minor_sdo_id : ℕ
  pub flag_field : ℕ
  pub correction_field : ℤ
  pub message_type_specific : ℕ
  -- sourcePortIdentity
  pub clock_identity : ℕ
  pub port_number : ℕ
  pub sequence_id : ℕ
  pub control_field : ℕ
  pub log_message_interval : ℕ

-- The header at the start of these octets: "message type (low half of octet 0)", "version .. (low half of octet 1)", "its correctionField,
-- octets 8 to 15 of the header", "source port (20 to 29) and sequence (30, 31)". Each field is the number in its bits; only the
-- correctionField is read as a signed one.
abbrev pub ptp_header : List ℕ → PtpHeader
ptp_header s =
    record {
      major_sdo_id = get_or s 0 0 / 16;
      message_type = get_or s 0 0 % 16;
      minor_version_ptp = get_or s 1 0 / 16;
      version_ptp = get_or s 1 0 % 16;
      message_length = number 2 s 2;
      domain_number = number 1 s 4;
      minor_sdo_id = number 1 s 5;
      flag_field = number 2 s 6;
      correction_field = signed_number s 8;
      message_type_specific = number 4 s 16;
      clock_identity = number 8 s 20;
      port_number = number 2 s 28;
      sequence_id = number 2 s 30;
      control_field = number 1 s 32;
      log_message_interval = number 1 s 33;
    }

-- the same header with another correctionField
abbrev pub with_correction : PtpHeader → ℤ → PtpHeader
with_correction h z =
    record {
      major_sdo_id = h.major_sdo_id;
      message_type = h.message_type;
      minor_version_ptp = h.minor_version_ptp;
      version_ptp = h.version_ptp;
      message_length = h.message_length;
      domain_number = h.domain_number;
      minor_sdo_id = h.minor_sdo_id;
      flag_field = h.flag_field;
      correction_field = z;
      message_type_specific = h.message_type_specific;
      clock_identity = h.clock_identity;
      port_number = h.port_number;
      sequence_id = h.sequence_id;
      control_field = h.control_field;
      log_message_interval = h.log_message_interval;
    }
