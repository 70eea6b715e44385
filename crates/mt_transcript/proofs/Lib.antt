pub mod MisplacedLaws
