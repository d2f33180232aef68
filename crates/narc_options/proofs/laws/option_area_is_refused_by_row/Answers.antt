use Rattle.narc_options.proofs.AreaRead.{refused_by_row}
use Rattle.narc_options.proofs.laws.option_area_is_refused_by_row.Goals as goal

pub returns : goal.returns
returns c = refused_by_row
