use Rattle.std.proofs.Common.{◌<◌, ◌+◌, ◌*◌, ◌^◌, arith, lit<, refl}
use Rattle.hb_http.proofs.ChunkSizes.{sizes_fit}
use Rattle.hb_http.proofs.chunk_places.after_size.Goals as goal

pub overflow_mul-result : goal.overflow_mul-result
overflow_mul-result c =
    let few : c.args.digits < 16 = omega arith in
    let fits : c.args.size * 16 + 0 < 2 ^ 64 = sizes_fit c.args.size c.args.digits 0 c.requires.1 few (lit< tt) in
    omega arith

pub overflow_add-result : goal.overflow_add-result
overflow_add-result c =
    let small : c.in-Some.value < 16 = (c.in-Some.ensures.some c.in-Some.value refl).2 in
    let few : c.args.digits < 16 = omega arith in
    let fits : c.args.size * 16 + c.in-Some.value < 2 ^ 64 = sizes_fit c.args.size c.args.digits c.in-Some.value c.requires.1 few small in
    omega arith
