-- The parts of a scene's machine before its scripts are run.
use Rattle.std.specs.Prelude.{◌≡◌, length, Some}
use Rattle.pg_digest.specs.Digests.{sha_hash}
use Rattle.pg_history.specs.Opening.{Opening, numbers_of}
use Rattle.pg_parts.specs.Opened.{OpenedNow, numbers_in, opening_in, IsOpenable}
use Rattle.scene_text.specs.declared.whole.Scene.{Scene}
use Rattle.scene_open.specs.Fits.{IsOpeningFor}
use Rattle.scene_run.specs.Needs.{needs_of}

-- They are those of an opening that fits the scene, nothing has happened to them, and callers may use of each what the
-- scripts need.
pub record IsStartOf (scene : Scene) (start : OpenedNow) : Type 0 where
  pub opening : Opening
  pub opens : opening_in start ≡ Some opening
  pub numbers : numbers_in start ≡ numbers_of opening
  pub fits : IsOpeningFor scene opening
  pub openable : IsOpenable sha_hash start
  pub needs : start.needs ≡ needs_of (length start.files) (length start.processes) scene.scripts
