use Rattle.std.proofs.Common.{◌≡◌, ◌++◌, [], List, ℕ, ap, ◌∙◌, append_assoc}
use Rattle.hop_writer.proofs.later.header_of.Goals as goal

-- pieces, one after another
joined : (a b c x y z : List ℕ) → x ≡ [] ++ a → y ≡ x ++ b → z ≡ y ++ c → z ≡ a ++ (b ++ c)
joined a b c x y z one two three = three ∙ ap (λ (l : List ℕ). l ++ c) (two ∙ ap (λ (l : List ℕ). l ++ b) one) ∙ append_assoc a b c

pub returns : goal.returns
returns c =
    let first = c.as_bytes.ensures.value ∙ c.in_ok-first.ensures.ok in let last = c.as_bytes-2.ensures.value ∙ c.in_ok-last.ensures.ok in
    joined c.as_bytes.result.now c.args.name.now c.as_bytes-2.result.now c.extend_from_slice.new.self.items c.extend_from_slice-2.new.self.items c.extend_from_slice-3.new.self.items
    (c.in_ok-extend_from_slice.ensures.items ∙ ap (λ (l : List ℕ). l ++ c.as_bytes.result.now) c.new-text.ensures.items) c.in_ok-extend_from_slice-2.ensures.items c.in_ok-extend_from_slice-3.ensures.items
    ∙ (λ i. first i ++ (c.args.name.now ++ last i)) ∙ simp append_assoc
