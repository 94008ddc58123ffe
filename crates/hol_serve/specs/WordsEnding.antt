-- What only a private impl speaks of: how the program ends where its words were refused.
use Rattle.hol_session.specs.declared.ending.Ending.{Ending}
use Rattle.hol_session.specs.declared.ending.Ending.TheVariants.{BadWords, Memory}
use Rattle.hol_serve.specs.declared.settings.Words.{Words}
use Rattle.hol_serve.specs.declared.settings.Words.TheVariants as words

abbrev pub words_ending : Words → Ending
words_ending words.Bad = BadWords
words_ending words.Memory = Memory
