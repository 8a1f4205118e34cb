-- Four texts one after another.
use Rattle.command.specs.Listing.{complaint}
use Rattle.command.proofs.Shown.{after}
use Rattle.command.proofs.show.Show.complain.Goals as goal

pub returns : goal.returns
unfolding complaint
returns c = after (after (after c.text.ensures c.text-2.ensures) c.text-3.ensures) c.text-4.ensures
