-- What was told, as files of a store: one under the hash of each digest that has bytes.
use Rattle.std.specs.Prelude.{◌≡◌, ℕ, List, Some, ◌∷◌, ◌++◌, Option, option_map, codes, filter_map}
use Rattle.std.specs.Prelude.{string_bytes}
use Rattle.std.specs.declared.vec.Vec.{Vec}
use Rattle.archive.specs.Archive.{IsEntry}
use Rattle.archive.specs.Writing.{EntryValue}
use Rattle.blob_digest.specs.Digest.{DigestValue}
use Rattle.blob_source.specs.Source.{bytes_of}
use Rattle.hex.specs.Hex.{encode_lower}
use Rattle.keeping.specs.Answers.{answer_at}
use Rattle.keeping.specs.declared.answers.Answers.{Answers}
use Rattle.keeping.specs.declared.told.ToldFile.{ToldFile}

-- the path of the file for a digest in a part of a store
abbrev pub store_path : List ℕ → DigestValue → List ℕ
store_path part digest = codes "store/" ++ part ++ 47 ∷ encode_lower digest.hash

-- the file of an answer that has bytes
abbrev pub told_file : {A : Type 0} → List ℕ → DigestValue × Option (Vec ℕ A) → Option EntryValue
told_file part answer = option_map (λ bytes. (store_path part answer.0, bytes)) (bytes_of answer.1)

-- the files of what was told, in the order of their digests
abbrev pub told_files : {A : Type 0} → List ℕ → Answers A → List EntryValue
told_files part kept = filter_map (told_file part) kept.answers.entries

abbrev pub told_value : {A : Type 0} → ToldFile A → EntryValue
told_value file = (string_bytes file.path, file.content.now)

-- The bytes under each digest, where some were told, are read of an archive, under the hash.
abbrev pub ReadsTold : {A : Type 0} → List ℕ → List ℕ → Answers A → Type 0
ReadsTold archive part kept = (d : DigestValue) (bytes : List ℕ)
    → answer_at kept d ≡ Some (Some bytes) → IsEntry archive (store_path part d) bytes
