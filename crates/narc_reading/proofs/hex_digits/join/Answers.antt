use Rattle.std.proofs.Common.{◌∙◌}
use Rattle.std.proofs.lemmas.Simd.{put_chunk_whole}
use Rattle.narc_reading.proofs.DigitLanes.{paired, paired-octets_of}
use Rattle.narc_reading.proofs.hex_digits.join.Goals as goal

pub returns : goal.returns
returns c =
    let first = c.args.first in
    let second = c.args.second in
    put_chunk_whole c.args.octets.now (paired first second) c.requires.room ∙ paired-octets_of first second c.requires.first c.requires.second
