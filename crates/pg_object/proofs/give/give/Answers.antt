use Rattle.pg_object.proofs.GiveFacts.{own_page}
use Rattle.pg_object.proofs.give.give.Goals as goal

pub grant-requires : goal.grant-requires
grant-requires g c = record { stands = own_page c.args.regions.now.regions c.args.region.now c.args.page c.requires.stands; room = c.requires.records }
