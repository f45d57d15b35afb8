-- The scores of a frame's lags as the code forms them: many lags at once, each lag's own sum ascending.
pub mod Lags
