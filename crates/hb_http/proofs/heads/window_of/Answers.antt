use Rattle.std.proofs.Common.{◌≡◌, ◌∙◌, ap, take, length, min, arith}
use Rattle.std.proofs.lemmas.List.{take_min}
use Rattle.hb_http.specs.declared.TheConstants.{MAX_HEAD}
use Rattle.hb_http.proofs.heads.window_of.Goals as goal

pub returns : goal.returns
returns c =
    let least : c.min.result ≡ min MAX_HEAD (length c.args.bytes.now) = omega (arith, c.min.ensures) in
    ap (λ n. take n c.args.bytes.now) least ∙ take_min MAX_HEAD c.args.bytes.now
