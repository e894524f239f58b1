use Rattle.std.proofs.Common.{◌≡◌, ◌++◌, ◌∷◌, ◌∙◌}
use Rattle.std.specs.List.{flat_map}
use Rattle.hb_text.specs.Names.{project_of}
use Rattle.hb_rows.specs.Tables.{artifact_at}
use Rattle.hb_model.specs.ArtifactChanges.{artifact_change, tag_changes, put_changes}
use Rattle.hb_model.specs.ArtifactEffects.{other_refs}
use Rattle.hb_model.specs.ContentChanges.{associate_changes, touch_changes}
use Rattle.hb_plan.specs.Findings.{holding_of}
use Rattle.hb_plan.proofs.Findings.{found-both}
use Rattle.hb_plan.proofs.Puts.{added-twice}
use Rattle.hb_plan.proofs.batches.put_changes_of.Goals as goal

pub returns-clause-told : goal.returns-clause-told
returns-clause-told g c =
    let put = c.args.put.now in
    let n = c.args.stamp.number in
    let moment = c.args.stamp.moment in
    found-both
    (λ r. c.touch_others.new.made ≡ c.in_ok-made.made ++ flat_map (touch_changes n moment c.args.project.now r) (other_refs put.digest c.as_slice.result.now))
    (λ r. c.in_ok-row.row ≡ artifact_at r put.name put.digest)
    (λ r. c.args.project.now ≡ project_of put.name → holding_of r c.args.project.now put.digest ≡ c.args.held.now → c.push_artifact.new.made ≡ put_changes n moment put.name put.digest c.args.size put.media put.refs put.children put.tag r)
    _ _ c.touch_others.ensures.rows c.in_ok-touch_others.ensures.told c.in_ok-row.ensures.told
    (λ r touched row project held.
    let own = c.in_ok-made.ensures r held in
    let refs = c.as_slice.ensures in
    added-twice c.in_ok-made.made _ _ c.touch_others.new.made c.push_artifact.new.made touched c.in_ok-push_artifact.ensures
    ∙ (λ i. own i ++ (flat_map (touch_changes n moment c.args.project.now r) (other_refs put.digest (refs i)) ++ artifact_change n moment put.name put.digest c.args.size put.media put.refs put.children (row i) ∷ tag_changes n moment put.name put.digest put.tag))
    ∙ (λ i. associate_changes n moment (project i) put.digest c.args.size r ++ (flat_map (touch_changes n moment (project i) r) (other_refs put.digest put.refs) ++ artifact_change n moment put.name put.digest c.args.size put.media put.refs put.children (artifact_at r put.name put.digest) ∷ tag_changes n moment put.name put.digest put.tag)))
