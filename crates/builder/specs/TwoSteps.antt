-- The build of two steps over a store that has the steps' frames too: of it an engine is opened.
use Rattle.std.specs.Prelude.{ℕ, List, [], ◌∷◌, ◌++◌}
use Rattle.blob_digest.specs.Digest.{DigestValue}
use Rattle.action_messages.specs.Frame.{frame_bytes}
use Rattle.blob_source.specs.Source.{Telling}
use Rattle.verifier.specs.TwoSteps as two

abbrev pub kept_frames : List (DigestValue × List ℕ)
kept_frames = (two.gen_frame_digest, frame_bytes two.gen.0.frame) ∷
    (two.use_frame_digest, frame_bytes two.uses.0.frame) ∷ []

abbrev pub telling : Telling
telling = record two.telling { blobs = two.keeping (two.kept_blobs ++ kept_frames) }
