-- The message Directory is read from its one encoding.
use Rattle.std.proofs.Common.{◌≡◌, ℕ, Bool, true, false, not, ◌||◌, List, [], ◌∷◌, ◌++◌, map, None, Result, Ok, Err, refl, sym, ap, subst, ◌∙◌, append_assoc}
use Rattle.std.specs.List.{AllByRecursion}
use Rattle.std.specs.Str.{is_utf8}
use Rattle.std.proofs.lemmas.List.{append-nil}
use Rattle.wire.specs.Record.{Record}
use Rattle.wire.specs.Spelling.{spelling}
use Rattle.wire.proofs.Steps.{bind_ok, ok_is}
use Rattle.canonical.specs.declared.shape.Kind.TheVariants as kinds
use Rattle.canonical.specs.Codec.{IsCodec}
use Rattle.canonical.specs.Columns.{column}
use Rattle.canonical.proofs.Columns.{Part, joined}
use Rattle.canonical.proofs.Codec.{IsMessage, codec, codec_as}
use Rattle.messages.specs.declared.error.MessageError.{MessageError}
use Rattle.messages.specs.Told.{told}
use Rattle.std.proofs.Common.{cond}
use Rattle.wire.specs.Steps.{◌>>=◌}
use Rattle.std.specs.Prelude.{IsOk, IsErr}
use Rattle.canonical.specs.Told.{each}
use Rattle.canonical.specs.Fields.{element_fields, elements_at}
use Rattle.canonical.proofs.FieldKinds.{elements_column, elements_again, elements_are}
use Rattle.canonical.proofs.Codec.{each_found, each_only}
use Rattle.canonical.proofs.Sound.{elements_sound}
use Rattle.messages.specs.declared.error.MessageError.TheVariants.{SameName}
use Rattle.messages.specs.Shapes.{repeated}
use Rattle.messages.specs.FileNode.{IsFileNode, file_node_bytes, decoded_file_node}
use Rattle.messages.specs.DirectoryNode.{IsDirectoryNode, directory_node_bytes, decoded_directory_node}
use Rattle.messages.specs.SymlinkNode.{IsSymlinkNode, symlink_node_bytes, decoded_symlink_node}
use Rattle.messages.specs.Order.{ordered_behind, share_name}
use Rattle.messages.specs.DirectoryRules.{DirectoryValue, IsDirectory, AreNames, file_names, directory_names, symlink_names, none_shared, names_ordered, directory_checked}
use Rattle.messages.specs.Directory.{directory_shape, directory_bytes, directory_in, decoded_directory}
use Rattle.messages.proofs.Choices.{or_false}
use Rattle.messages.proofs.Orders.{ascending, ordered_behind-from, ShareNone-from, share_name-from}
use Rattle.messages.proofs.FileNodeCodec.{file_node_codec}
use Rattle.messages.proofs.DirectoryNodeCodec.{directory_node_codec}
use Rattle.messages.proofs.SymlinkNodeCodec.{symlink_node_codec}

abbrev pub directory_parts : DirectoryValue → List Part
directory_parts e = (repeated 1 kinds.Message, element_fields 1 (map file_node_bytes e.files)) ∷ (repeated 2 kinds.Message, element_fields 2 (map directory_node_bytes e.directories)) ∷ (repeated 3 kinds.Message, element_fields 3 (map symlink_node_bytes e.symlinks)) ∷ []

abbrev unless_shared : Bool → Result (Unit {0}) MessageError
unless_shared b = cond b (Err SameName) (Ok tt)

unshared : (b : Bool) → unless_shared b ≡ Ok tt → b ≡ false
unshared true h = absurd cc
unshared false h = refl

pub names_of_ordered : (files directories symlinks : List (List ℕ)) → names_ordered files directories symlinks ≡ Ok tt → AreNames files directories symlinks
names_of_ordered files directories symlinks e =
    let a = bind_ok (ordered_behind None files) (λ _. ordered_behind None directories >>= λ _. ordered_behind None symlinks >>= λ _. none_shared files directories symlinks) tt e in
    let b = bind_ok (ordered_behind None directories) (λ _. ordered_behind None symlinks >>= λ _. none_shared files directories symlinks) tt a.2 in
    let c = bind_ok (ordered_behind None symlinks) (λ _. none_shared files directories symlinks) tt b.2 in
    let none = unshared (share_name files directories || share_name files symlinks || share_name directories symlinks) c.2 in
    let n2 = or_false (share_name files directories || share_name files symlinks) (share_name directories symlinks) none in
    let n1 = or_false (share_name files directories) (share_name files symlinks) n2.0 in
    record {
      files_ascend = ascending files a.1;
      directories_ascend = ascending directories b.1;
      symlinks_ascend = ascending symlinks c.1;
      files_and_directories = ShareNone-from files directories n1.0;
      files_and_symlinks = ShareNone-from files symlinks n1.1;
      directories_and_symlinks = ShareNone-from directories symlinks n2.1;
    }

pub ordered_of_names : (files directories symlinks : List (List ℕ)) → AreNames files directories symlinks → names_ordered files directories symlinks ≡ Ok tt
ordered_of_names files directories symlinks h =
    let a = ordered_behind-from files h.files_ascend in
    let b = ordered_behind-from directories h.directories_ascend in
    let c = ordered_behind-from symlinks h.symlinks_ascend in
    let n1 = share_name-from files directories h.files_and_directories in
    let n2 = share_name-from files symlinks h.files_and_symlinks in
    let n3 = share_name-from directories symlinks h.directories_and_symlinks in
    rw (a, b, c, n1, n2, n3) refl

-- what the names' rules answer
pub err_not_ok : {A E : Type 0} (r : Result A E) → IsErr r → IsOk r → ⊥
err_not_ok (Ok x) e o = cc e
err_not_ok (Err x) e o = cc o

pub names_refused : (files directories symlinks : List (List ℕ)) (e : MessageError) → names_ordered files directories symlinks ≡ Err e → AreNames files directories symlinks → ⊥
names_refused files directories symlinks e given n = let o = ordered_of_names files directories symlinks n in cc (sym o ∙ given)

lists_found : (e x : DirectoryValue) → directory_checked e ≡ Ok x → AreNames (file_names e.files) (directory_names e.directories) (symlink_names e.symlinks) × (e ≡ x)
unfolding directory_checked
lists_found e x h =
    let a = bind_ok (names_ordered (file_names e.files) (directory_names e.directories) (symlink_names e.symlinks)) (λ _. Ok e) x h in
    (names_of_ordered (file_names e.files) (directory_names e.directories) (symlink_names e.symlinks) a.1, ok_is {E = MessageError} e x a.2)

lists_given : (e : DirectoryValue) → AreNames (file_names e.files) (directory_names e.directories) (symlink_names e.symlinks) → directory_checked e ≡ Ok e
unfolding directory_checked
lists_given e h = let o = ordered_of_names (file_names e.files) (directory_names e.directories) (symlink_names e.symlinks) h in rw o refl

pub no_texts : (xs : List (List ℕ)) → AllByRecursion (λ x. (not false || is_utf8 x) ≡ true) xs
no_texts [] = tt
no_texts (x ∷ xs) = (refl, no_texts xs)

directory_message : IsMessage directory_shape directory_in directory_parts IsDirectory
directory_message = record {
  ascends = refl;
  found = λ rs x s shape e.
      let a = bind_ok (each decoded_file_node (elements_at 1 rs)) _ x e in
      let b = bind_ok (each decoded_directory_node (elements_at 2 rs)) _ x a.2 in
      let d = bind_ok (each decoded_symlink_node (elements_at 3 rs)) _ x b.2 in
      let made : DirectoryValue = record { files = a.0; directories = b.0; symlinks = d.0 } in
      let k = lists_found made x d.2 in
      let e1 : column 1 rs ≡ element_fields 1 (elements_at 1 rs) = elements_column (repeated 1 kinds.Message) rs shape.kept.0 refl in
      let e2 : column 2 rs ≡ element_fields 2 (elements_at 2 rs) = elements_column (repeated 2 kinds.Message) rs shape.kept.1.0 refl in
      let e3 : column 3 rs ≡ element_fields 3 (elements_at 3 rs) = elements_column (repeated 3 kinds.Message) rs shape.kept.1.1.0 refl in
      let f1 = each_found decoded_file_node file_node_bytes IsFileNode file_node_codec (elements_at 1 rs) a.0 (elements_sound 1 rs (elements_at 1 rs) s e1) a.1 in
      let f2 = each_found decoded_directory_node directory_node_bytes IsDirectoryNode directory_node_codec (elements_at 2 rs) b.0 (elements_sound 2 rs (elements_at 2 rs) s e2) b.1 in
      let f3 = each_found decoded_symlink_node symlink_node_bytes IsSymlinkNode symlink_node_codec (elements_at 3 rs) d.0 (elements_sound 3 rs (elements_at 3 rs) s e3) d.1 in
      let c1 : column 1 rs ≡ element_fields 1 (map file_node_bytes a.0) = e1 ∙ ap (element_fields 1) f1.1 in
      let c2 : column 2 rs ≡ element_fields 2 (map directory_node_bytes b.0) = e2 ∙ ap (element_fields 2) f2.1 in
      let c3 : column 3 rs ≡ element_fields 3 (map symlink_node_bytes d.0) = e3 ∙ ap (element_fields 3) f3.1 in
      let parts : rs ≡ joined (directory_parts made) = shape.parts ∙ rw (c1, c2, c3) refl in
      subst (λ (y : DirectoryValue). IsDirectory y × (rs ≡ joined (directory_parts y))) k.1 (record { files = f1.0; directories = f2.0; symlinks = f3.0; names = k.0 }, parts);
  shape = λ e k. (
    refl,
    (
      elements_are (repeated 1 kinds.Message) (map file_node_bytes e.files) refl refl (no_texts (map file_node_bytes e.files)),
      (
        elements_are (repeated 2 kinds.Message) (map directory_node_bytes e.directories) refl refl (no_texts (map directory_node_bytes e.directories)),
        (elements_are (repeated 3 kinds.Message) (map symlink_node_bytes e.symlinks) refl refl (no_texts (map symlink_node_bytes e.symlinks)), tt),
      ),
    ),
  );
  only = λ e rs k s apart.
      let t1 = elements_again 1 rs (map file_node_bytes e.files) apart.0 in
      let t2 = elements_again 2 rs (map directory_node_bytes e.directories) apart.1.0 in
      let t3 = elements_again 3 rs (map symlink_node_bytes e.symlinks) apart.1.1.0 in
      let r1 = each_only decoded_file_node file_node_bytes IsFileNode file_node_codec (map file_node_bytes e.files) e.files (elements_sound 1 rs (map file_node_bytes e.files) s apart.0) k.files refl in
      let r2 = each_only decoded_directory_node directory_node_bytes IsDirectoryNode directory_node_codec (map directory_node_bytes e.directories) e.directories (elements_sound 2 rs (map directory_node_bytes e.directories) s apart.1.0) k.directories refl in
      let r3 = each_only decoded_symlink_node symlink_node_bytes IsSymlinkNode symlink_node_codec (map symlink_node_bytes e.symlinks) e.symlinks (elements_sound 3 rs (map symlink_node_bytes e.symlinks) s apart.1.1.0) k.symlinks refl in
      rw (t1, t2, t3, r1, r2, r3) (lists_given e k.names);
}

pub directory_codec : IsCodec decoded_directory directory_bytes IsDirectory
unfolding decoded_directory directory_bytes
directory_codec = codec_as decoded_directory directory_bytes (codec told directory_shape directory_in directory_parts IsDirectory directory_message) (λ b. refl)
    (λ e. ap spelling (ap (λ (l : List Record). element_fields 1 (map file_node_bytes e.files) ++ (element_fields 2 (map directory_node_bytes e.directories) ++ l)) (append-nil (element_fields 3 (map symlink_node_bytes e.symlinks))) ∙ sym (append_assoc (element_fields 1 (map file_node_bytes e.files)) (element_fields 2 (map directory_node_bytes e.directories)) (element_fields 3 (map symlink_node_bytes e.symlinks)))))
