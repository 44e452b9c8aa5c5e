-- What a result refers to, by the blobs that are found.
use Rattle.std.specs.Prelude.{ℕ, Bool, not, ◌&&◌, List, [], ◌∷◌, ◌++◌, bytes_eq, Option, Some, None}
use Rattle.std.specs.Prelude.{is_some, is_none, unwrap_or, if◌then◌else◌}
use Rattle.std.specs.List.{find, list_any}
use Rattle.std.specs.Option.{option_and_then}
use Rattle.blob_digest.specs.DigestValue.{DigestValue}
pub use Rattle.blob_store.specs.Blobs.{is_empty, of_size, held_under, blob_of, is_held}

-- what stands in a result: the digest of a blob, or of a Tree
pub record Reference : Type 0 where
  pub digest : DigestValue
  pub is_tree : Bool

-- how results and Trees are read: what a result refers to, and the digests of a Tree's files, each
-- in order
pub record Reader : Type 0 where
  pub outputs : List ℕ → Option (List Reference)
  pub files : List ℕ → Option (List DigestValue)

-- the first digest, or else the second
abbrev pub first_given : Option DigestValue → Option DigestValue → Option DigestValue
first_given None o = o
first_given (Some d) o = Some d

-- a digest names a blob with this hash. The empty blob is never stored, and so is left out
abbrev pub names_hash : List ℕ → DigestValue → Bool
names_hash h d = not (is_empty d) && bytes_eq d.hash h

-- what a result refers to; nothing where the bytes are none
abbrev pub outputs_of : Reader → List ℕ → List Reference
outputs_of reader bytes = unwrap_or (reader.outputs bytes) []

-- files answers the digests of the files of a Tree, if it is held and decodes
module _ (files : DigestValue → Option (List DigestValue)) where
  -- a digest, and after a Tree's those of its files
  abbrev pub digests_by : Reference → List DigestValue
  digests_by r = r.digest ∷ (if r.is_tree then unwrap_or (files r.digest) [] else [])

  -- the digests of each reference, in order, after a Tree's those of its files
  abbrev pub references_by : List Reference → List DigestValue
  references_by [] = []
  references_by (r ∷ rs) = digests_by r ++ references_by rs

-- found answers the bytes that are stored under a hash
module _ (found : List ℕ → Option (List ℕ)) where
  -- the first file of a Tree that isn't held, or the Tree if it doesn't decode
  abbrev pub fault_in_tree : DigestValue → Option (List DigestValue) → Option DigestValue
  fault_in_tree d None = Some d
  fault_in_tree d (Some fs) = find (λ f. not (is_held found f)) fs

  module _ (files : DigestValue → Option (List DigestValue)) where
    -- what is wrong with a reference: the digest that is not held, or the Tree that does not decode
    abbrev pub fault_by : Reference → Option DigestValue
    fault_by r =
        if is_held found r.digest
        then (if r.is_tree then fault_in_tree r.digest (files r.digest) else None)
        else Some r.digest

    -- the first fault of some references
    abbrev pub first_fault_by : List Reference → Option DigestValue
    first_fault_by [] = None
    first_fault_by (r ∷ rs) = first_given (fault_by r) (first_fault_by rs)

  module _ (reader : Reader) where
    -- the digests of the files of a Tree, if it is held and decodes
    abbrev pub files_of : DigestValue → Option (List DigestValue)
    files_of d = option_and_then reader.files (blob_of found d)

    -- what a reference stands for, by the blobs that are found
    abbrev pub digests_of : Reference → List DigestValue
    digests_of r = digests_by files_of r

    -- all that is referred to, in order
    abbrev pub references : List Reference → List DigestValue
    references rs = references_by files_of rs

    -- what is wrong with a reference, by the blobs that are found
    abbrev pub fault_of : Reference → Option DigestValue
    fault_of r = fault_by files_of r

    -- the first fault in the order of the references
    abbrev pub first_fault : List Reference → Option DigestValue
    first_fault rs = first_fault_by files_of rs

    -- every reference is held, and every Tree decodes
    abbrev pub is_complete : List ℕ → Bool
    is_complete bytes =
        is_some (reader.outputs bytes) && is_none (first_fault (outputs_of reader bytes))

    -- whether a result refers to a blob with this hash
    abbrev pub refers : List ℕ → List ℕ → Bool
    refers bytes h = list_any (names_hash h) (references (outputs_of reader bytes))
