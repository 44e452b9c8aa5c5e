-- Lines that meet, and lines that conflict, meet all that a merge by digests asks of them.
use Rattle.std.specs.Prelude.{codes}
use Rattle.std.proofs.Common.{[], ◌∷◌, ◌≡◌, ℕ, List, Some, refl, ap, sym, ◌∙◌, arith, inl, inr}
use Rattle.wire.specs.Varint.{groups, varint}
use Rattle.blob_digest.specs.Digest.{digest_of}
use Rattle.messages.specs.Directory.{directory_bytes}
use Rattle.blob_source.specs.Told.{TellsDirectory}
use Rattle.tree.specs.Form.{no_children, form, root}
use Rattle.tree.specs.Tree.{empty, Entry, whole, Leaf, IsOrderedEntry}
use Rattle.tree.specs.Merge.{TreeLines}
use Rattle.tree.specs.Merging.{conflict, merged}
use Rattle.tree.specs.MergeAgrees.{IsBlobOfOne, IsOfMerge}
use Rattle.tree.specs.MergeExample.{MeetsPremises, always_empty, empty_file, lines_of_entries, meeting_entries, met_tree, unlike_entries}
use Rattle.tree.specs.Stage.{◌and_then◌}

pub no_bytes : directory_bytes no_children ≡ []
unfolding directory_bytes groups varint
no_bytes = refl

told : TellsDirectory always_empty (root (form empty)) no_children
told = record {
  valid = record { files = tt; directories = tt; symlinks = tt; names = record { files_ascend = tt; directories_ascend = tt; symlinks_ascend = tt; files_and_directories = tt; files_and_symlinks = tt; directories_and_symlinks = tt } };
  blob = record { held = inl (ap digest_of no_bytes, ap Some no_bytes); right = refl };
}

-- An entry at `a` and an empty file at `a/b` meet the premises, where the entry has no blob but the empty one.
module _ (e : Entry Leaf) (ordered : IsOrderedEntry e) (alone : (b : List ℕ) → IsBlobOfOne e b → b ≡ []) where
  abbrev pub entries : TreeLines
  entries = (codes "a" ∷ [], e) ∷ (codes "a" ∷ codes "b" ∷ [], empty_file) ∷ []

  only : (b : List ℕ) → IsOfMerge always_empty (lines_of_entries entries) entries b → b ≡ []
  only b (inl (d, held)) = cc
  only b (inr (inl (inl none))) = absurd none
  only b (inr (inl (inr (inl none)))) = absurd none
  only b (inr (inl (inr (inr none)))) = absurd none
  only b (inr (inr (inl blob))) = alone b blob
  only b (inr (inr (inr (inl content)))) = content
  only b (inr (inr (inr (inr none)))) = absurd none

  pub meets : MeetsPremises always_empty (lines_of_entries entries) entries
  meets = record {
    held = (tt, (tt, tt));
    stand = (
      record { target = refl; node = refl; ordered = ordered; some = λ e. absurd cc; few = omega arith },
      (record { target = refl; node = refl; ordered = tt; some = λ e. absurd cc; few = omega arith }, tt),
    );
    apart = λ x y left right same. only x left ∙ sym (only y right);
  }

pub meeting_told : MeetsPremises always_empty (lines_of_entries meeting_entries) meeting_entries
meeting_told = meets (whole empty) tt by
  where
    by : (b : List ℕ) → IsBlobOfOne (whole empty) b → b ≡ []
    by b (inl same) = same ∙ no_bytes
    by b (inr none) = absurd none

pub unlike_told : MeetsPremises always_empty (lines_of_entries unlike_entries) unlike_entries
unlike_told = meets empty_file tt (λ b content. content)

pub they_meet : (merged always_empty (lines_of_entries meeting_entries)).passes met_tree
unfolding merged ◌and_then◌
they_meet =
    (_, (tt, (tt, (tt, tt)), (_, (_, (_, told, refl), (_, (_, refl, (_, refl, refl)), refl)), (_, (_, refl, (_, refl, refl)), refl))), (_, refl, refl))

pub they_conflict : (merged always_empty (lines_of_entries unlike_entries)).fails (conflict (codes "a" ∷ []))
unfolding merged ◌and_then◌
they_conflict = inl (inl ((λ can. can.0), refl))
