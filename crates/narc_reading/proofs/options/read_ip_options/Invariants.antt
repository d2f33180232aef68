use Rattle.std.proofs.Common.{◌≡◌, ◌++◌, length, map}
use Rattle.narc_packet.specs.TextWords.{ip_option_word}
use Rattle.narc_reading.specs.Parts.{parts_of}
use Rattle.narc_reading.specs.Reading.{FitIpArea}
use Rattle.narc_reading.proofs.options.read_ip_options.Given as goal

abbrev pub invariant-loop-next : goal.invariant-loop-next
invariant-loop-next l = record {
  parts : parts_of 44 l.word ≡ map ip_option_word l.options ++ l.words;
  fits : FitIpArea l.options;
}

abbrev pub decreases-loop-next : goal.decreases-loop-next
decreases-loop-next l = length l.words
