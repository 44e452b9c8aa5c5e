use Rattle.std.proofs.Common.{◌≡◌, ◌++◌, ◌∙◌, Some, ap, arith, refl}
use Rattle.std.specs.BTreeMap.{get_by_text}
use Rattle.std.proofs.lemmas.Map.Text.{text_keys}
use Rattle.blob_source.specs.Source.{bytes_of}
use Rattle.commands.specs.Kept.{folder_of}
use Rattle.commands.proofs.kept_evidence.KeptEvidence.keep_text.Goals as goal

pub returns : goal.returns
returns c =
    let here : get_by_text c.insert.new.self (folder_of c.args.self.now ++ c.args.name.now) ≡ Some c.in_ok-content.content = grind (arith, text_keys) in record {
      kept = λ keeps. ap bytes_of here ∙ ap Some c.in_ok-content.ensures.items;
      idle = λ idle. let keeps = c.keeps.ensures in let not = c.if-not-keeps.false in absurd cc;
      others = λ other not. ap bytes_of (grind (arith, text_keys));
      told = refl;
      folder = refl;
    }
