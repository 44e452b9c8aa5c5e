-- What a command that wasn't refused came to.
use Rattle.std.specs.Prelude.{Bool, true, false, string_bytes}
use Rattle.report.specs.Line.{IsOneLine}
use Rattle.commands.specs.declared.ended.Ended.{Ended}
use Rattle.commands.specs.declared.ended.Ended.TheVariants.{Done, No}
use Rattle.commands.specs.declared.judgement.Judgement.{Judgement}

-- what the words ask for is done, or the answer is yes
abbrev pub is_done : Ended → Bool
is_done Done = true
is_done (No _) = false

-- the line of a judgement is one line
abbrev pub HasOneLine : Judgement → Type 0
HasOneLine judgement = IsOneLine (string_bytes judgement.line)
