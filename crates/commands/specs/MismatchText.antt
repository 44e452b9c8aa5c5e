-- The words for where a folder isn't what builds make.
use Rattle.std.specs.Prelude.{◌≡◌, ℕ, true, false, List, ◌++◌, Option, None, Some, codes}
use Rattle.blob_digest.specs.Text.{digest_text}
use Rattle.messages.specs.declared.node.Node.TheVariants.{Dir, File, Link}
use Rattle.plan.specs.Escape.{escaped_path}
use Rattle.tree.specs.Form.{NodeValue}
use Rattle.tree.specs.Mismatch.{MismatchValue}
use Rattle.commands.specs.ErrorText.{IsQuoted}

-- what stands somewhere: the digest of a file or a directory, or where a link leads
abbrev pub IsNodeText : NodeValue → List ℕ → Type 0
IsNodeText (File d false) text = text ≡ digest_text d
IsNodeText (File d true) text = text ≡ digest_text d ++ codes " (executable)"
IsNodeText (Link target) text =
    (quoted : List ℕ) × IsQuoted target quoted × (text ≡ codes "a link to " ++ quoted)
IsNodeText (Dir d) text = text ≡ codes "the directory " ++ digest_text d

abbrev pub IsMadeText : Option NodeValue → List ℕ → Type 0
IsMadeText None text = text ≡ codes "no build makes anything there"
IsMadeText (Some x) text =
    (node : List ℕ) × IsNodeText x node × (text ≡ codes "every build makes " ++ node)

abbrev pub IsFolderText : Option NodeValue → List ℕ → Type 0
IsFolderText None text = text ≡ codes "the folder has nothing there"
IsFolderText (Some x) text =
    (node : List ℕ) × IsNodeText x node × (text ≡ codes "the folder has " ++ node)

-- the path as plans spell it, what builds make there, and what the folder has
pub record IsMismatchText (x : MismatchValue) (text : List ℕ) : Type 0 where
  pub made : List ℕ
  pub is_made : IsMadeText x.here made
  pub there : List ℕ
  pub is_there : IsFolderText x.there there
  pub is : text ≡ escaped_path x.path ++ (codes ": " ++ (made ++ (codes ", " ++ there)))
