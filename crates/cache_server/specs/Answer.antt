-- An answer as it is sent.
use Rattle.std.specs.Prelude.{ℕ, Bool, true, false, List, ◌++◌}
use Rattle.http_core.specs.declared.reply.Content.{Content}
use Rattle.http_core.specs.declared.reply.Content.TheVariants.{Own, Shared}

pub record AnswerValue : Type 0 where
  pub head : List ℕ
  pub body : List ℕ
  -- others may hold the body too
  pub shared : Bool

-- others may hold the bytes
abbrev pub is_shared : {A : Type 0} → Content A → Bool
is_shared (Own bytes) = false
is_shared (Shared bytes) = true

-- the head, and then the body
abbrev pub text_of : AnswerValue → List ℕ
text_of a = a.head ++ a.body
