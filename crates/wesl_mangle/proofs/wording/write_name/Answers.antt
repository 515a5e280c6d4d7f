use Rattle.std.proofs.Common.{◌++◌, length, arith, ap}
use Rattle.std.specs.List.{flat_map}
use Rattle.std.proofs.lemmas.List.{length-append}
use Rattle.wesl_path.specs.Texts.{path_value, name_text}
use Rattle.wesl_mangle.proofs.Kept.{path_sound, name_plain}
use Rattle.wesl_mangle.proofs.wording.write_name.Goals as goal

pub push_lead-text-requires : goal.push_lead-text-requires
push_lead-text-requires g c =
    let p = path_value c.args.path.now in
    let i = name_text c.args.item.now in
    let short = (g.met.W.Wording.named p i (path_sound c.args.path.now) (name_plain c.args.item.now)).short in
    let whole = simp length-append at (ap length (g.met.W.Wording.in_words p i)) in
    let new = ap length c.requires in
    omega arith

pub push_words-requires : goal.push_words-requires
push_words-requires g c =
    let p = path_value c.args.path.now in
    let i = name_text c.args.item.now in
    let short = (g.met.W.Wording.named p i (path_sound c.args.path.now) (name_plain c.args.item.now)).short in
    let whole = simp length-append at (ap length (g.met.W.Wording.in_words p i)) in
    let new = ap length c.requires in
    let lead = simp length-append at (ap length c.push_lead-text.ensures.leads) in
    let told = ap (λ ws. length (flat_map (λ w. g.W.Wording.written w ++ g.W.Wording.end) ws)) c.push_lead-text.ensures.text in
    omega arith

pub push_word-requires : goal.push_word-requires
push_word-requires g c =
    let p = path_value c.args.path.now in
    let i = name_text c.args.item.now in
    let short = (g.met.W.Wording.named p i (path_sound c.args.path.now) (name_plain c.args.item.now)).short in
    let whole = simp length-append at (ap length (g.met.W.Wording.in_words p i)) in
    let new = ap length c.requires in
    let lead = simp length-append at (ap length c.push_lead-text.ensures.leads) in
    let told = ap (λ ws. length (flat_map (λ w. g.W.Wording.written w ++ g.W.Wording.end) ws)) c.push_lead-text.ensures.text in
    let words = simp length-append at (ap length c.push_words.ensures) in
    let item = ap (λ w. length (g.W.Wording.written w)) c.as_bytes.ensures.value in
    omega arith
