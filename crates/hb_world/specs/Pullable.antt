-- What clients can pull of a registry, by what its devices tell.
use Rattle.std.specs.Prelude.{IfSome}
use Rattle.std.specs.declared.option.Option.{Option}
use Rattle.hb_rows.specs.Tables.{Tables}
use Rattle.hb_store.specs.Contents.{Contents}
use Rattle.hb_history.specs.Artifacts.{ChildrenAreThere, TagsNameArtifacts}
use Rattle.hb_model.specs.Replay.{replay}
use Rattle.hb_model.specs.Sound.{IsSound}

-- Each child of an index is an artifact of the same repository, and so is what a tag names; and what clients see after the
-- audit is held, with bytes of its digest, where the contents are told.
pub record IsPullable (r : Tables) (contents : Option Contents) : Type 0 where
  pub children : ChildrenAreThere (replay r.audit)
  pub tags : TagsNameArtifacts (replay r.audit)
  pub sound : IfSome contents (λ c. IsSound (replay r.audit) c)
