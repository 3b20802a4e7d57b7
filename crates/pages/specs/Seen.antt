-- The page that a view shows.
use Rattle.model.specs.Model.{BookM}
use Rattle.book.specs.Of.{model_of}
use Rattle.pages.specs.declared.page.OpPage.{OpPage}
use Rattle.pages.specs.Page.{Page, page}

-- the model of the book that the view is of
abbrev pub book_of : OpPage → BookM
book_of v = model_of v.book.now

abbrev pub seen : OpPage → Page
seen v = page (book_of v) v.op
