use Rattle.std.proofs.Common.{[], ◌∷◌, refl, ap, ◌∙◌, Err, arith}
use Rattle.hb_text.specs.Names.{IsProjectName}
use Rattle.hb_model.specs.LegalProjects.{library}
use Rattle.hb_world.proofs.starting.library_name.Goals as goal

-- it is a word of seven letters
is-name : IsProjectName library
is-name = record {
  short = omega arith;
  matches = (
    library,
    [],
    refl,
    (
      108 ∷ [],
      105 ∷ 98 ∷ 114 ∷ 97 ∷ 114 ∷ 121 ∷ [],
      refl,
      (108, refl, refl),
      ((105 ∷ []) ∷ (98 ∷ []) ∷ (114 ∷ []) ∷ (97 ∷ []) ∷ (114 ∷ []) ∷ (121 ∷ []) ∷ [], refl, ((105, refl, refl), ((98, refl, refl), ((114, refl, refl), ((97, refl, refl), ((114, refl, refl), ((121, refl, refl), tt))))))),
    ),
    ([], refl, tt),
  );
}

pub unreachable-requires : goal.unreachable-requires
unreachable-requires c = c.read.ensures.invalid (c.in-Err-Invalid.is ∙ ap Err c.in-Err-Invalid.field-0-is) is-name
