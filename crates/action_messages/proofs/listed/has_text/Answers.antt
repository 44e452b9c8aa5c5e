use Rattle.std.proofs.Common.{◌∙◌}
use Rattle.action_messages.proofs.Searches.{texts_in}
use Rattle.action_messages.proofs.Places.{place_test}
use Rattle.action_messages.proofs.listed.has_text.Goals as goal

pub returns : goal.returns
returns g c = c.is_ok.ensures.value ∙ place_test (texts_in g.L.Listed.path_in c.args.items.now) c.args.text.now c.place_of.result c.place_of.ensures
