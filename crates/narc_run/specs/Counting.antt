-- Counts of a check.
use Rattle.std.specs.Prelude.{◌≡◌, ℕ, ◌+◌, ◌<◌, ◌≤◌, List, ◌++◌, codes, count_by, flat_map, nat_eq, slice_index, Option, Some, None, Result, Ok, Err, if◌then◌else◌}
use Rattle.std.specs.List.{range_with_len}
use Rattle.narc_format.specs.declared.field.TheConstants.{LAST}
use Rattle.narc_packet.specs.declared.field.TheConstants.{COUNT}
use Rattle.narc_pcap.specs.declared.limit.TheConstants.{CAPTURE_LIMIT}
use Rattle.narc_pcap.specs.declared.record.End.{End}
use Rattle.narc_stack.specs.declared.refusal.Refusal.{Refusal}
use Rattle.narc_run.specs.declared.counts.Counts.{Counts}
use Rattle.narc_run.specs.declared.tally.Tally.{Tally}
use Rattle.narc_run.specs.Findings.{Told}
use Rattle.narc_run.specs.Output.{count_line, refused_line, check_end, is_refused_for}
use Rattle.narc_run.specs.Tallies.{tally_of, IsRoomy}

-- the counts of these records: all, and the refused for each field
pub record AreCounts (counts : Counts) (told : List Told) : Type 0 where
  pub tally : counts.tally ≡ tally_of told
  pub refused : (field : ℕ) → field ≤ LAST → slice_index counts.refused field ≡ count_by (is_refused_for field) told

-- each count has room for one more
pub record HaveRoom (counts : Counts) : Type 0 where
  pub tally : IsRoomy counts.tally
  pub refused : (field : ℕ) → field ≤ LAST → slice_index counts.refused field < CAPTURE_LIMIT

-- 1 for a record that is refused for this field
abbrev pub refusals_of : (field : ℕ) → Option (Result (Unit {0}) Refusal) → ℕ
refusals_of field None = 0
refusals_of field (Some (Ok done)) = 0
refusals_of field (Some (Err r)) = if nat_eq r.field field then 1 else 0

-- a judgement more is counted for its field
abbrev pub AddsRefusal : (before now : List ℕ) → Option (Result (Unit {0}) Refusal) → Type 0
AddsRefusal before now judged = (field : ℕ) → field ≤ LAST → slice_index now field ≡ slice_index before field + refusals_of field judged

-- the lines of the fields with a refusal, by the counts
unfoldable pub refusal_lines : (refused : List ℕ) → (fields : ℕ) → List ℕ
refusal_lines refused fields = flat_map (λ field. refused_line field (slice_index refused field)) (range_with_len 1 fields)

-- all lines, by the counts
abbrev pub counts_lines : Tally → (refused : List ℕ) → End → List ℕ
counts_lines t refused end =
    count_line (codes "packets") t.packets ++ count_line (codes "snapped") t.snapped
    ++ refusal_lines refused COUNT ++ check_end t.records end

-- the status where the capture ends well
abbrev pub counts_status : Tally → ℕ
counts_status t = if nat_eq t.refused 0 then 0 else 1
