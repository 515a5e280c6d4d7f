use Rattle.std.proofs.Common.{◌≡◌, ◌++◌, length}
use Rattle.std.specs.List.{flat_map}
use Rattle.wesl_path.specs.Path.{words}
use Rattle.wesl_mangle.proofs.wording.push_words.Given as goal

-- what is written and the words yet to come make the whole
abbrev pub invariant-loop-word : goal.invariant-loop-word
invariant-loop-word g l =
    l.name ++ flat_map (λ w. g.W.Wording.written w ++ g.W.Wording.end) (words l.rest)
    ≡ l.initial.name ++ flat_map (λ w. g.W.Wording.written w ++ g.W.Wording.end) (words l.text)

abbrev pub decreases-loop-word : goal.decreases-loop-word
decreases-loop-word g l = length l.rest
