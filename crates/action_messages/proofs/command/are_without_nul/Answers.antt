use Rattle.std.proofs.Common.{rules, tests, sym, string_bytes, ◌∙◌}
use Rattle.std.proofs.lemmas.Iterator.{YieldsList-from_slice}
use Rattle.std.proofs.lemmas.Iterator.Search.{all_from_yields_List}
use Rattle.std.proofs.lemmas.List.Folds.{list_all-map}
use Rattle.action_messages.specs.Command.{is_argument}
use Rattle.action_messages.proofs.command.are_without_nul.Goals as goal

pub returns : goal.returns
returns g c =
    all_from_yields_List (λ t. is_argument (string_bytes t)) _ _ _ c.all.ensures.ran
    (YieldsList-from_slice c.args.arguments.now c.iter.ensures.rest) (λ x b q k. search (rules, tests))
    ∙ sym (list_all-map is_argument string_bytes c.args.arguments.now)
