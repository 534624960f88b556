use Rattle.rs_erase.proofs.CodeWords.{code_word_values, code_word_from}
use Rattle.rs_erase.proofs.laws.code_words_have_the_roots.Goals as goal

pub returns : goal.returns
returns c = λ word long elements. (code_word_values word, code_word_from word long elements)
