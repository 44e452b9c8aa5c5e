use Rattle.commands.proofs.OneHint.{escaped_word, one_hint, spelled_word, word_escaped}
use Rattle.commands.proofs.laws.a_fault_has_one_hint.Goals as goal

pub returns : goal.returns
returns c = record { one = one_hint; words = λ word. (escaped_word word, word_escaped word); spelled = spelled_word }
