-- A capture as text, and the first lines of one.
use Rattle.std.specs.Prelude.{◌≡◌, ℕ, ◌-◌, ◌<◌, ◌≤◌, ◌^◌, Bool, true, false, ◌&&◌, ◌||◌, List, [], ◌++◌, length, drop, flat_map, nat_eq, nat_lt}
use Rattle.std.specs.List.{AllByRecursion, list_any}
use Rattle.narc_pcap.specs.declared.header.Unit.{Unit as TimeUnit}
use Rattle.narc_build.specs.declared.limits.TheConstants.{LONGEST_LINE}
use Rattle.narc_text.specs.CaptureText.{TextEntry, IsTextEntry, unit_word, capture_line, entry_line, end_line}

-- what a capture's text says: the unit of sub-seconds, the snapshot length, and the packets with their times
pub record TextCapture : Type 0 where
  pub unit : TimeUnit
  pub snap : ℕ
  pub entries : List TextEntry

-- the lines before the last
abbrev pub begun_text : TextCapture → List ℕ
begun_text c = capture_line (unit_word c.unit) c.snap ++ flat_map entry_line c.entries

-- all lines
abbrev pub capture_text : TextCapture → List ℕ
capture_text c = begun_text c ++ end_line (length c.entries) (length c.entries) 0 0

pub record IsTextCapture (c : TextCapture) : Type 0 where
  pub snap : c.snap < 2 ^ 32
  pub entries : AllByRecursion IsTextEntry c.entries

-- the octets are the text of a capture of packets alone
abbrev pub IsCaptureText : List ℕ → Type 0
IsCaptureText s = (c : TextCapture) × IsTextCapture c × (s ≡ capture_text c)

-- the first lines of a capture's text: none, some but the last, or all
pub data TextFront : Type 0 where
  NoLine : TextFront
  Begun : TextCapture → TextFront
  Whole : TextCapture → TextFront

abbrev pub front_text : TextFront → List ℕ
front_text NoLine = []
front_text (Begun c) = begun_text c
front_text (Whole c) = capture_text c

abbrev pub IsTextFront : TextFront → Type 0
IsTextFront NoLine = Unit {0}
IsTextFront (Begun c) = IsTextCapture c
IsTextFront (Whole c) = IsTextCapture c

abbrev pub is_whole : TextFront → Bool
is_whole NoLine = false
is_whole (Begun c) = false
is_whole (Whole c) = true

-- the octets begin with these lines, and with no more of any capture's text
pub record IsFrontOf (s : List ℕ) (f : TextFront) : Type 0 where
  pub valid : IsTextFront f
  pub rest : List ℕ
  pub layout : s ≡ front_text f ++ rest
  pub longest : (other : TextFront) (more : List ℕ) → IsTextFront other → s ≡ front_text other ++ more
      → length (front_text other) ≤ length (front_text f)

-- what is behind these lines
abbrev pub rest_of : TextFront → List ℕ → List ℕ
rest_of f s = drop (length (front_text f)) s

-- the octets are the text of a capture
abbrev pub is_all : TextFront → List ℕ → Bool
is_all f s = is_whole f && nat_eq (length (front_text f)) (length s)

-- What is behind the first lines is the front of no line that may follow them, whatever comes behind it: it has a line
-- feed, or is longer than any line, or stands behind the last.
abbrev pub is_broken : TextFront → List ℕ → Bool
is_broken f s =
    let rest = rest_of f s in
    list_any (λ octet. nat_eq octet 10) rest || nat_lt (LONGEST_LINE - 1) (length rest) || (is_whole f && nat_lt 0 (length rest))
