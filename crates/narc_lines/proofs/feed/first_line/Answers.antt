use Rattle.narc_lines.proofs.Feeds.{feed_found, no_feed_found, rest_is}
use Rattle.narc_lines.proofs.feed.first_line.Goals as goal

pub returns-in-Some : goal.returns-in-Some
returns-in-Some c =
    feed_found c.args.octets.now _ c.args.through c.in-Some.behind (rest_is c.args.octets.now c.args.through) c.requires.within c.requires.none c.in-Some.ensures

pub returns-in-None : goal.returns-in-None
returns-in-None c =
    no_feed_found c.args.octets.now _ c.args.through (rest_is c.args.octets.now c.args.through) c.requires.none c.in-None.ensures
