-- The numbers of a reply give the reply back, so no two replies have the same. Assumes nothing.
use mathlib.Core.Path.{◌≡◌, refl, ap, sym, ◌∙◌}
use mathlib.Core.Bool.{cond}
use lib.Dec.{eqb}
use Rattle.machine.specs.Run.{valued, notice, spent}
use Rattle.runner.specs.Outcomes.{Reply, done, chart, running, ended, ending, wrote, refused}
use Rattle.encoding.specs.Encoding.{ending_numbers, encode, EncodesOnce}
use Rattle.encoding.specs.declared.Encoded.{Encoded}

decode : Encoded → Reply
decode t =
    cond (eqb t.kind 0) done
    (cond (eqb t.kind 1) (chart t.first t.second)
    (cond (eqb t.kind 2) (running t.first)
    (cond (eqb t.kind 3) (ended t.first)
    (cond (eqb t.kind 4) (ending (valued t.first) t.second)
    (cond (eqb t.kind 5) (ending (notice t.second) t.first)
    (cond (eqb t.kind 6) (ending spent t.first)
    (cond (eqb t.kind 7) (refused t.first t.second)
    (wrote t.first))))))))

decoded : (r : Reply) → decode (encode r) ≡ r
unfolding decode encode ending_numbers
decoded done = refl
decoded (chart inputs boxes) = refl
decoded (running steps) = refl
decoded (ended steps) = refl
decoded (ending (valued v) steps) = refl
decoded (ending (notice named) steps) = refl
decoded (ending spent steps) = refl
decoded (wrote bytes) = refl
decoded (refused number detail) = refl

pub encodes_once : EncodesOnce
encodes_once a b e = sym (decoded a) ∙ ap decode e ∙ decoded b
